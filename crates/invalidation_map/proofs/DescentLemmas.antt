-- For `add_descendants`: the walk down, over a set that grows while it is gone along.
use Rattle.std.proofs.Common.{◌≡◌, ℕ, zero, suc, ◌+◌, ◌<◌, ◌≤◌, ◌==◌, ◌||◌, true, List, [], ◌∷◌, ◌++◌, length, take, get_or, Some, None, slice_get, sym, ap, ◌∙◌, inl, inr, arith}
use Rattle.std.specs.Cmp.{both_ways}
use Rattle.std.specs.List.{list_any}
use Rattle.std.proofs.lemmas.Bool.{false≢true, or_left, or_right, or_cases}
use Rattle.std.proofs.lemmas.List.{take_all, take_more}
use Rattle.std.proofs.lemmas.List.Folds.{list_any-append}
use Rattle.std.proofs.lemmas.Option.{slice_get-get_or, same_Some}
use Rattle.scene_model.specs.Element.{Element}
use Rattle.scene_model.specs.Ancestors.{ancestors}
use Rattle.scene_model.specs.Lookups.{IsElement, parent_of, children}
use Rattle.scene_model.specs.Valid.{IsValid}
use Rattle.scene_model.proofs.Any.{any_in, in_any, in_middle}
use Rattle.scene_model.proofs.Climbing.{ancestors-child}
use Rattle.scene_model.proofs.Lists.{split_at}
use Rattle.scene_model.proofs.Numbers.{same_number}
use Rattle.selector_model.specs.Holds.{is_in_relation}
use Rattle.selector_model.specs.Selector.{child, descendant}
use Rattle.change_model.proofs.Ends.{child_in, in_child}
use Rattle.edit_model.proofs.Forward.{below_found}
use Rattle.scene_model.specs.Numbers.{is_in}
use Rattle.invalidation_map.specs.Members.{Members, AreAdded}
use Rattle.invalidation_map.specs.Steps.{AreLed}
use Rattle.invalidation_map.proofs.SetLemmas.{take_take}
use Rattle.invalidation_map.proofs.OnwardLemmas.{in_option, just_one, option_in}
use Rattle.invalidation_map.proofs.LeadLemmas.{led_element, some_to_lead}

-- what is in the set is below one of the list; the children of the list are in it, and those of the set's first, so many
pub record IsDescent (doc : List Element) (from : List ℕ) (done : ℕ) (old now : Members) : Type 0 where
  pub room : now.room ≡ old.room
  pub below : (x : ℕ) → is_in x now.items ≡ true → list_any (λ y. is_in_relation doc descendant y x) from ≡ true
  pub first : (x p : ℕ) → parent_of doc x ≡ Some p → is_in p from ≡ true → is_in x now.items ≡ true
  pub next : (x p : ℕ) → parent_of doc x ≡ Some p → is_in p (take done now.items) ≡ true → is_in x now.items ≡ true

got_in : (x i : ℕ) (xs : List ℕ) → slice_get xs i ≡ Some x → is_in x xs ≡ true
got_in x i xs e = ap (λ l. is_in x l) (split_at xs i x e) ∙ in_middle x (take i xs) _

got_few : (xs : List ℕ) (i x : ℕ) → slice_get xs i ≡ Some x → i + 1 ≤ length xs
got_few [] i x e = absurd (cc)
got_few (y ∷ xs) zero x e = omega arith
got_few (y ∷ xs) (suc i) x e = omega (arith, got_few xs i x e)

got_more : (xs : List ℕ) (i x : ℕ) → slice_get xs i ≡ Some x → take (i + 1) xs ≡ take i xs ++ x ∷ []
got_more xs i x e =
    let few : i < length xs = omega (arith, got_few xs i x e) in
    take_more xs i 0 few ∙ ap (λ z. take i xs ++ z ∷ []) (same_Some (get_or xs i 0) x (sym (slice_get-get_or xs i 0 few) ∙ e))

got_none : (xs : List ℕ) (i : ℕ) → slice_get xs i ≡ None → length xs ≤ i
got_none [] i e = omega arith
got_none (y ∷ xs) zero e = absurd (cc)
got_none (y ∷ xs) (suc i) e = omega (arith, got_none xs i e)

child_below : (doc : List Element) → IsValid doc → (y x : ℕ) → parent_of doc x ≡ Some y → is_in_relation doc descendant y x ≡ true
child_below doc v y x e = ap (λ l. is_in y l) (ancestors-child doc v x y e) ∙ or_left (y == y) (is_in y (ancestors doc y)) (same_number y)

-- where there is one to begin from, the document is valid
module _ (doc : List Element) (from : List ℕ) (valid : 0 < length from → IsValid doc) where
  valid_below : (x : ℕ) → list_any (λ y. is_in_relation doc descendant y x) from ≡ true → IsValid doc
  valid_below x h = valid (some_to_lead (λ y. is_in_relation doc descendant y x) from h)

  on_below : (x z : ℕ) → parent_of doc z ≡ Some x → list_any (λ y. is_in_relation doc descendant y x) from ≡ true → list_any (λ y. is_in_relation doc descendant y z) from ≡ true
  on_below x z e h =
      let (y, (i, t)) = any_in (λ y. is_in_relation doc descendant y x) from h in
      in_any (λ y. is_in_relation doc descendant y z) y from i (ap (λ l. is_in y l) (ancestors-child doc (valid_below x h) z x e) ∙ or_right (x == y) (is_in y (ancestors doc x)) t)

  pub descent_begins : (old now : Members) → old.items ≡ [] → AreLed (is_in_relation doc child) from old now → IsDescent doc from 0 old now
  descent_begins old now none led = record {
    room = led.room;
    below = below;
    first = λ x p e i. led.each x ∙ or_right (is_in x old.items) (list_any (λ y. is_in_relation doc child y x) from)
        (in_any (λ y. is_in_relation doc child y x) p from i (option_in (parent_of doc x) p e));
    next = λ x p e i. absurd (false≢true i);
  }
    where
      below : (x : ℕ) → is_in x now.items ≡ true → list_any (λ y. is_in_relation doc descendant y x) from ≡ true
      below x h =
          let any = sym (led.each x ∙ ap (λ l. is_in x l || list_any (λ y. is_in_relation doc child y x) from) none) ∙ h in
          let (y, (i, t)) = any_in (λ y. is_in_relation doc child y x) from any in
          in_any (λ y. is_in_relation doc descendant y x) y from i (child_below doc (valid (some_to_lead (λ y. is_in_relation doc child y x) from any)) y x (in_option (parent_of doc x) y t))

  pub descent_next : (done x : ℕ) (old now later : Members) → IsDescent doc from done old now → slice_get now.items done ≡ Some x → AreAdded (children doc x) now later
      → IsDescent doc from (done + 1) old later
  descent_next done x old now later d got added = record {
    room = added.room ∙ d.room;
    below = λ z h. elim (or_cases (is_in z now.items) (is_in z (children doc x)) (sym (added.each z) ∙ h)) [
      | inl k ↦ d.below z k
      | inr k ↦ on_below x z (in_child doc v x z k) below
    ];
    first = λ z p e i. added.each z ∙ or_left (is_in z now.items) (is_in z (children doc x)) (d.first z p e i);
    next = next;
  }
    where
      below : list_any (λ y. is_in_relation doc descendant y x) from ≡ true
      below = d.below x (got_in x done now.items got)

      v : IsValid doc
      v = valid_below x below

      gone : take (done + 1) later.items ≡ take done now.items ++ x ∷ []
      gone =
          sym (take_take (done + 1) (length now.items) later.items (got_few now.items done x got)) ∙ (ap (take (done + 1)) added.front ∙ got_more now.items done x got)

      next : (z p : ℕ) → parent_of doc z ≡ Some p → is_in p (take (done + 1) later.items) ≡ true → is_in z later.items ≡ true
      next z p e i = elim (or_cases (is_in p (take done now.items)) (is_in p (x ∷ [])) (sym (ap (λ l. is_in p l) gone ∙ list_any-append (λ w. w == p) (take done now.items) (x ∷ [])) ∙ i)) [
        | inl k ↦ added.each z ∙ or_left (is_in z now.items) (is_in z (children doc x)) (d.next z p e k)
        | inr k ↦ added.each z ∙ or_right (is_in z now.items) (is_in z (children doc x)) (child_in doc v x z (e ∙ ap Some (sym (just_one x p k))))
      ]

  pub descent_element : (done x : ℕ) (old now : Members) → IsDescent doc from done old now → slice_get now.items done ≡ Some x → IsElement doc x
  descent_element done x old now d got =
      let below = d.below x (got_in x done now.items got) in
      let (y, (i, t)) = any_in (λ y. is_in_relation doc descendant y x) from below in
      led_element doc (valid_below x below) descendant y x t

  -- all are found, from the top down
  module _ (done : ℕ) (old now : Members) (d : IsDescent doc from done old now) (got : slice_get now.items done ≡ None) where
    children_found : (y x : ℕ) → (is_in y from || is_in y now.items) ≡ true → parent_of doc x ≡ Some y → is_in x now.items ≡ true
    children_found y x h e = elim (or_cases (is_in y from) (is_in y now.items) h) [
      | inl i ↦ d.first x y e i
      | inr k ↦ d.next x y e (ap (λ l. is_in y l) (take_all done now.items (got_none now.items done got)) ∙ k)
    ]

    there : (x : ℕ) → list_any (λ y. is_in_relation doc descendant y x) from ≡ true → is_in x now.items ≡ true
    there x h =
        let (y, (i, t)) = any_in (λ y. is_in_relation doc descendant y x) from h in
        below_found doc (valid_below x h) ((λ y. is_in y from)) ((λ y. is_in y now.items)) children_found x (in_any ((λ y. is_in y from)) y (ancestors doc x) t i)

    pub descent_ends : old.items ≡ [] → AreLed (is_in_relation doc descendant) from old now
    descent_ends none = record {
      room = d.room;
      each = λ x. both_ways (is_in x now.items) (list_any (λ y. is_in_relation doc descendant y x) from) (d.below x) (there x)
          ∙ ap (λ l. is_in x l || list_any (λ y. is_in_relation doc descendant y x) from) (sym none);
      front = ap (λ l. take (length l) now.items) none ∙ sym none;
    }
