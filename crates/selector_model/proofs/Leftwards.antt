-- What is in the relation of a combinator to the left of an element.
use Rattle.std.proofs.Common.{◌≡◌, ℕ, ◌-◌, Bool, true, ◌&&◌, List, [], length, take, Option, Some, None, option_to_list, refl, sym, ap, ◌∙◌}
use Rattle.std.specs.Cmp.{both_ways}
use Rattle.std.specs.List.{AllByRecursion, list_any}
use Rattle.std.proofs.lemmas.Bool.{and_from, and_parts}
use Rattle.scene_model.specs.Element.{Element}
use Rattle.scene_model.specs.Lookups.{IsElement, numbers, parent_of, siblings, left_of}
use Rattle.scene_model.specs.Valid.{IsValid}
use Rattle.scene_model.proofs.Any.{any_in, in_any, in_middle}
use Rattle.scene_model.proofs.Climbing.{ancestors_each}
use Rattle.scene_model.proofs.Found.{is_element-numbers}
use Rattle.scene_model.proofs.Numbers.{is_in, each_is_in}
use Rattle.scene_model.proofs.Siblings.{each_left_sibling, last_split}
use Rattle.selector_model.specs.Selector.{Combinator, descendant, child, next_sibling, later_sibling, Selector, combined, Compound}
use Rattle.selector_model.specs.Holds.{nearest, leftwards, is_in_relation, holds, meets}

module _ (doc : List Element) (v : IsValid doc) where
  each_there : (P : ℕ → Type 0) (o : Option ℕ) → ((p : ℕ) → o ≡ Some p → P p) → AllByRecursion P (option_to_list o)
  each_there P None h = tt
  each_there P (Some p) h = (h p refl, tt)

  pub nearest_element : (x w : ℕ) → nearest (left_of x (siblings doc x)) ≡ Some w → IsElement doc w
  nearest_element x w e =
      let left : List ℕ = left_of x (siblings doc x) in
      each_is_in (IsElement doc) w left (each_left_sibling doc v x) (ap (is_in w) (last_split left w e) ∙ in_middle w (take (length left - 1) left) [])

  pub left_each : (k : Combinator) (x : ℕ) → AllByRecursion (IsElement doc) (leftwards doc k x)
  left_each descendant x = ancestors_each doc v x
  left_each child x = each_there (IsElement doc) (parent_of doc x) (λ p e. (v.parents x p e).0)
  left_each next_sibling x = each_there (IsElement doc) (nearest (left_of x (siblings doc x))) (nearest_element x)
  left_each later_sibling x = each_left_sibling doc v x

  -- there is an element in the relation that passes a test where one to the left passes it
  pub left_same : (k : Combinator) (test : ℕ → Bool) (x : ℕ) → list_any (λ y. is_in_relation doc k y x && test y) (numbers doc) ≡ list_any test (leftwards doc k x)
  left_same k test x = both_ways (list_any (λ y. is_in_relation doc k y x && test y) (numbers doc)) (list_any test (leftwards doc k x)) there back
    where
      there : list_any (λ y. is_in_relation doc k y x && test y) (numbers doc) ≡ true → list_any test (leftwards doc k x) ≡ true
      there h =
          let (y, (i, t)) = any_in (λ y. is_in_relation doc k y x && test y) (numbers doc) h in
          let parts = and_parts (is_in_relation doc k y x) (test y) t in
          in_any test y (leftwards doc k x) parts.0 parts.1

      back : list_any test (leftwards doc k x) ≡ true → list_any (λ y. is_in_relation doc k y x && test y) (numbers doc) ≡ true
      back h =
          let (y, (i, t)) = any_in test (leftwards doc k x) h in
          let element : IsElement doc y = each_is_in (IsElement doc) y (leftwards doc k x) (left_each k x) i in
          in_any (λ y. is_in_relation doc k y x && test y) y (numbers doc) (sym (is_element-numbers doc y) ∙ element) (and_from (is_in_relation doc k y x) (test y) i t)

  -- a selector with another to the left of it
  pub holds-combined : (c : Compound) (k : Combinator) (r : Selector) (x : ℕ) → holds doc (combined c k r) x ≡ (meets doc c x && list_any (holds doc r) (leftwards doc k x))
  holds-combined c k r x = ap (λ b. meets doc c x && b) (left_same k (holds doc r) x)
