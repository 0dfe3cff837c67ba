-- For `take_step`: to which elements one leads, children and siblings after it.
use Rattle.std.proofs.Common.{◌≡◌, ℕ, ◌<◌, nat_eq, Bool, true, false, cond, List, [], ◌∷◌, length, take, Option, Some, None, option_to_list, slice_get, refl, sym, ap, ◌∙◌, arith}
use Rattle.std.specs.Cmp.{both_ways}
use Rattle.std.specs.List.{IsDistinct, list_any}
use Rattle.std.proofs.lemmas.Bool.{false≢true}
use Rattle.base_model.proofs.Lists.{each-take}
use Rattle.scene_model.specs.Element.{Element}
use Rattle.scene_model.specs.Lookups.{is_element, IsElement, parent_of, children, beside, siblings, left_of, right_of}
use Rattle.scene_model.specs.Ancestors.{up, ancestors}
use Rattle.scene_model.specs.Valid.{IsValid}
use Rattle.scene_model.proofs.Climbing.{ancestors-up}
use Rattle.scene_model.proofs.Found.{each_child-parent, parent_of-element}
use Rattle.scene_model.proofs.Lists.{each_weaker}
use Rattle.scene_model.proofs.Numbers.{each_is_in}
use Rattle.scene_model.proofs.Siblings.{each_sibling}
use Rattle.selector_model.specs.Holds.{is_in_relation}
use Rattle.selector_model.specs.Selector.{Combinator, child, descendant, next_sibling, later_sibling}
use Rattle.change_model.proofs.Ends.{in_child, distinct_children}
use Rattle.change_model.proofs.SameSiblings.{each-right}
use Rattle.edit_model.proofs.Facts.{siblings_under, siblings_top}
use Rattle.edit_model.proofs.Forward.{later_leads, next_leads}
use Rattle.scene_model.specs.Numbers.{is_in}
use Rattle.invalidation_map.specs.Steps.{AreElements}
use Rattle.invalidation_map.proofs.OnwardLemmas.{in_option, just_one, left_in, nearest_in}

-- where one of a list leads somewhere, there is one
pub some_to_lead : (leads : ℕ → Bool) (from : List ℕ) → list_any leads from ≡ true → 0 < length from
some_to_lead leads [] h = absurd (false≢true h)
some_to_lead leads (y ∷ from) h = omega arith

one_at : (xs : List ℕ) → take 1 xs ≡ option_to_list (slice_get xs 0)
one_at [] = refl
one_at (x ∷ xs) = refl

module _ (doc : List Element) (v : IsValid doc) where
  siblings_at : (x y : ℕ) (b : Bool) (o : Option ℕ) → is_element doc x ≡ b → parent_of doc x ≡ o → is_in y (cond b (beside doc x o) []) ≡ true → (is_element doc x ≡ true) × (o ≡ parent_of doc y)
  siblings_at x y false o e f h = absurd (false≢true h)
  siblings_at x y true None e f h = (e, sym f ∙ ap (parent_of doc) (just_one x y h))
  siblings_at x y true (Some p) e f h = (e, sym (in_child doc v p y h))

  -- siblings have one parent
  pub sibling_parent : (x y : ℕ) → is_in y (siblings doc x) ≡ true → IsElement doc x × (parent_of doc x ≡ parent_of doc y)
  sibling_parent x y h = siblings_at x y (is_element doc x) (parent_of doc x) refl refl h

  -- only to elements
  below_element : (x y : ℕ) (o : Option ℕ) → parent_of doc x ≡ o → is_in y (up (ancestors doc) o) ≡ true → IsElement doc x
  below_element x y None e h = absurd (false≢true h)
  below_element x y (Some p) e h = parent_of-element doc x p e

  pub led_element : (k : Combinator) (y x : ℕ) → is_in_relation doc k y x ≡ true → IsElement doc x
  led_element descendant y x h = below_element x y (parent_of doc x) refl (ap (λ l. is_in y l) (sym (ancestors-up doc v x)) ∙ h)
  led_element child y x h = parent_of-element doc x y (in_option (parent_of doc x) y h)
  led_element next_sibling y x h = (sibling_parent x y (left_in x y (siblings doc x) (nearest_in (left_of x (siblings doc x)) y h))).0
  led_element later_sibling y x h = (sibling_parent x y (left_in x y (siblings doc x) h)).0

  pub children_are : (p : ℕ) → AreElements doc (children doc p)
  children_are p = each_weaker (λ y. parent_of doc y ≡ Some p) (IsElement doc) (λ y e. parent_of-element doc y p e) (children doc p) (each_child-parent doc p v.distinct)

  pub after_are : (x : ℕ) → AreElements doc (right_of x (siblings doc x))
  after_are x = each-right (IsElement doc) x (siblings doc x) (each_sibling doc v x)

  pub next_are : (x : ℕ) → AreElements doc (take 1 (right_of x (siblings doc x)))
  next_are x = each-take (IsElement doc) 1 (right_of x (siblings doc x)) (after_are x)

  -- so what it leads to need not be known as an element
  pub later_led : (y x : ℕ) → IsElement doc y → is_in x (right_of y (siblings doc y)) ≡ is_in_relation doc later_sibling y x
  later_led y x t =
      both_ways (is_in x (right_of y (siblings doc y))) (is_in_relation doc later_sibling y x)
      (λ h. later_leads doc v y x t (each_is_in (IsElement doc) x (right_of y (siblings doc y)) (after_are y) h) ∙ h) (λ h. sym (later_leads doc v y x t (led_element later_sibling y x h)) ∙ h)

  pub next_led : (y x : ℕ) → IsElement doc y → is_in x (take 1 (right_of y (siblings doc y))) ≡ is_in_relation doc next_sibling y x
  next_led y x t =
      let first : is_in x (take 1 (right_of y (siblings doc y))) ≡ is_in x (option_to_list (slice_get (right_of y (siblings doc y)) 0)) = ap (λ l. is_in x l) (one_at (right_of y (siblings doc y))) in
      both_ways (is_in x (take 1 (right_of y (siblings doc y)))) (is_in_relation doc next_sibling y x)
      (λ h. next_leads doc v y x t (each_is_in (IsElement doc) x (take 1 (right_of y (siblings doc y))) (next_are y) h) ∙ (sym first ∙ h))
      (λ h. first ∙ (sym (next_leads doc v y x t (led_element next_sibling y x h)) ∙ h))

  distinct_at : (x : ℕ) (b : Bool) (o : Option ℕ) → IsDistinct nat_eq (cond b (beside doc x o) [])
  unfolding IsDistinct
  distinct_at x false o = tt
  distinct_at x true None = (tt, tt)
  distinct_at x true (Some p) = distinct_children doc v p

  pub distinct_siblings : (x : ℕ) → IsDistinct nat_eq (siblings doc x)
  distinct_siblings x = distinct_at x (is_element doc x) (parent_of doc x)

  same_at : (x n : ℕ) (o : Option ℕ) → IsElement doc x → parent_of doc x ≡ o → is_in n (siblings doc x) ≡ true → siblings doc x ≡ siblings doc n
  same_at x n None t e h = ap (siblings doc) (just_one x n (ap (λ l. is_in n l) (sym (siblings_top doc x t e)) ∙ h))
  same_at x n (Some p) t e h = siblings_under doc x p e ∙ sym (siblings_under doc n p (sym (sibling_parent x n h).1 ∙ e))

  pub same_siblings : (x n : ℕ) → is_in n (siblings doc x) ≡ true → siblings doc x ≡ siblings doc n
  same_siblings x n h = same_at x n (parent_of doc x) (sibling_parent x n h).0 refl h
