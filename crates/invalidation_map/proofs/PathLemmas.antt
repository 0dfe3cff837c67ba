-- For `walk`: where a path leads, step by step.
use Rattle.std.proofs.Common.{◌≡◌, ℕ, ◌+◌, ◌<◌, ◌≤◌, ◌==◌, ◌||◌, ◌&&◌, true, List, [], ◌∷◌, length, drop, get_or, refl, sym, ap, ◌∙◌, subst, arith, add-one, drop-cons}
use Rattle.std.specs.Cmp.{both_ways}
use Rattle.std.specs.List.{list_any}
use Rattle.std.proofs.lemmas.Bool.{and_parts, and_from, eqb-true}
use Rattle.std.proofs.lemmas.List.{drop_all}
use Rattle.scene_model.specs.Element.{Element}
use Rattle.scene_model.specs.Lookups.{IsElement, numbers}
use Rattle.scene_model.specs.Valid.{IsValid}
use Rattle.scene_model.proofs.Any.{any_in, in_any}
use Rattle.scene_model.proofs.Found.{is_element-numbers}
use Rattle.scene_model.proofs.Numbers.{each_is_in}
use Rattle.selector_model.specs.Selector.{Combinator}
use Rattle.selector_model.specs.Holds.{is_in_relation}
use Rattle.change_model.proofs.GraftChildren.{each_of}
use Rattle.edit_model.specs.Dependencies.{Step, forwards, leads, reaches}
use Rattle.scene_model.specs.Numbers.{is_in}
use Rattle.invalidation_map.specs.Members.{Members}
use Rattle.invalidation_map.specs.Steps.{AddsRelated, AreElements, AreLed}
use Rattle.dependency_map.specs.DepView.{path_of, step_of}
use Rattle.invalidation_map.specs.Paths.{AreReached, AreStepped, TakesStep}
use Rattle.dependency_map.specs.declared.dep.PathStep.{PathStep}
use Rattle.invalidation_map.proofs.LeadLemmas.{led_element, some_to_lead}

-- a path from the first, and what is ahead of it from those that it has led to
pub record IsAhead (doc : List Element) (path ahead : List Step) (first now : List ℕ) : Type 0 where
  pub each : (x : ℕ) → list_any (λ y. reaches doc ahead y x) now ≡ list_any (λ y. reaches doc path y x) first

drop_ahead : (path : List PathStep) (i : ℕ) (d : PathStep) → i < length path → path_of (drop i path) ≡ step_of (get_or path i d) ∷ path_of (drop (i + 1) path)
drop_ahead path i d l = ap path_of (drop-cons path i d l ∙ ap (λ n. get_or path i d ∷ drop n path) (sym (add-one i)))

pub no_path : (path : List PathStep) → (length path == 0) ≡ true → path_of path ≡ []
no_path [] h = refl
no_path (step ∷ path) h = absurd (omega (arith, eqb-true (length (step ∷ path)) 0 h))

module _ (doc : List Element) where
  pub step_elements : (from : List ℕ) → (0 < length from → IsValid doc) → (k : Combinator) (old new : Members) → old.items ≡ []
      → AreLed (is_in_relation doc k) from old new → AreElements doc new.items
  step_elements from valid k old new none led = each_of (IsElement doc) new.items (λ x h.
      let any = sym (led.each x ∙ ap (λ l. is_in x l || list_any (λ y. is_in_relation doc k y x) from) none) ∙ h in
      let (y, (i, t)) = any_in (λ y. is_in_relation doc k y x) from any in
      led_element doc (valid (some_to_lead (λ y. is_in_relation doc k y x) from any)) k y x t)

  -- a set that was cleared gets those to which a step leads
  pub step_made : (from : List ℕ) (k : Combinator) (before cleared new : Members) → cleared.items ≡ [] → cleared.room ≡ before.room → AddsRelated doc k from cleared new
      → TakesStep doc (forwards k) from before new
  step_made from k before cleared new none same more = record {
    stepped = record { each = λ x. more.led.each x ∙ ap (λ l. is_in x l || list_any (λ y. is_in_relation doc k y x) from) none };
    elements = step_elements from more.valid k cleared new none more.led;
    room = more.led.room ∙ same;
  }

  -- one step of the path is taken
  pub step_taken : (path ahead : List Step) (step : Step) (first from new : List ℕ) → AreElements doc new → AreStepped doc step from new → IsAhead doc path (step ∷ ahead) first from
      → IsAhead doc path ahead first new
  step_taken path ahead step first from new are to is = record {
    each = λ x. both_ways (list_any (λ z. reaches doc ahead z x) new) (list_any (λ y. reaches doc (step ∷ ahead) y x) from) (there x)
        (back x) ∙ is.each x;
  }
    where
      there : (x : ℕ) → list_any (λ z. reaches doc ahead z x) new ≡ true → list_any (λ y. reaches doc (step ∷ ahead) y x) from ≡ true
      there x h =
          let (z, (i, t)) = any_in (λ z. reaches doc ahead z x) new h in
          let (y, (j, s)) = any_in (λ y. leads doc step y z) from (sym (to.each z) ∙ i) in
          in_any (λ y. reaches doc (step ∷ ahead) y x) y from j
          (in_any (λ z. leads doc step y z && reaches doc ahead z x) z (numbers doc) (sym (is_element-numbers doc z) ∙ each_is_in (IsElement doc) z new are i)
          (and_from (leads doc step y z) (reaches doc ahead z x) s t))

      back : (x : ℕ) → list_any (λ y. reaches doc (step ∷ ahead) y x) from ≡ true → list_any (λ z. reaches doc ahead z x) new ≡ true
      back x h =
          let (y, (j, s)) = any_in (λ y. reaches doc (step ∷ ahead) y x) from h in
          let (z, (i, t)) = any_in (λ z. leads doc step y z && reaches doc ahead z x) (numbers doc) s in
          let parts = and_parts (leads doc step y z) (reaches doc ahead z x) t in
          in_any (λ z. reaches doc ahead z x) z new (to.each z ∙ in_any (λ y. leads doc step y z) y from j parts.0) parts.1

  pub path_next : (path : List PathStep) (i : ℕ) (d : PathStep) (first from shown new now : List ℕ) → i < length path → AreElements doc new → AreStepped doc (step_of (get_or path i d)) shown new
      → shown ≡ from → now ≡ new → IsAhead doc (path_of path) (path_of (drop i path)) first from → IsAhead doc (path_of path) (path_of (drop (i + 1) path)) first now
  path_next path i d first from shown new now l are to same renewed is =
      subst (IsAhead doc (path_of path) (path_of (drop (i + 1) path)) first) (sym renewed)
      (step_taken (path_of path) (path_of (drop (i + 1) path)) (step_of (get_or path i d)) first from new are (subst (λ xs. AreStepped doc (step_of (get_or path i d)) xs new) same to)
      (subst (λ ahead. IsAhead doc (path_of path) ahead first from) (drop_ahead path i d l) is))

  -- nothing of it is ahead
  pub path_walked : (path : List PathStep) (i : ℕ) (first now : List ℕ) → length path ≤ i → IsAhead doc (path_of path) (path_of (drop i path)) first now → AreReached doc (path_of path) first now
  path_walked path i first now l is = record {
    each = λ x. ap (λ p. list_any (λ y. reaches doc (path_of p) y x) now) (sym (drop_all i path l)) ∙ is.each x;
  }
