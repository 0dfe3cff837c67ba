-- In a list that is sorted from the greatest down, the first that passes is the greatest of those that pass.
use Rattle.std.proofs.Common.{◌≡◌, ℕ, suc, ◌+◌, ◌<◌, Bool, true, false, not, ◌&&◌, ◌||◌, List, [], ◌∷◌, length, get_or, find, filter, map}
use Rattle.std.proofs.Common.{Option, option_map, Some, None, refl, sym, ap, ◌∙◌, ⊎_elim, arith}
use Rattle.std.proofs.Math.Bool.{and_comm}
use Rattle.std.proofs.lemmas.Bool.{true≢false, and_parts, cases_Bool, false_from_ne_true, not-true, or_right}
use Rattle.std.proofs.lemmas.Cmp.{tied_itself, on_total}
use Rattle.std.proofs.lemmas.List.Folds.{list_all-map}
use Rattle.std.proofs.lemmas.List.MinMax.{IsStrictWeakOrder-flip}
use Rattle.std.proofs.lemmas.List.Sorted.{sorted_far, ranks_by, All-permutation, IsPermutation-sym}
use Rattle.std.proofs.lemmas.List.Sums.{AllPass-from_list_all, list_all-from_AllPass}
use Rattle.std.proofs.lemmas.Option.{none-some, same_Some}
use Rattle.std.specs.Cmp.{IsTotalOrder, IsStrictWeakOrder}
use Rattle.std.specs.declared.cmp.Ordering.{Ordering}
use Rattle.std.specs.declared.cmp.Ordering.TheVariants.{Less, Equal, Greater}
use Rattle.std.specs.List.{list_all}
use Rattle.std.specs.List.Sorted.{IsPermutation, IsSortedBy, IsStableBy, ties}
use Rattle.std.specs.Ordering.{ordering_reverse, is_lt, is_le}
use Rattle.cascade_model.proofs.WinnerLemmas.{found_within, found_alike, all_through, at_most-trans, is_top, top_of}
use Rattle.base_model.proofs.Lists.{find_passes}

module _ {X : Type 0} where
  -- each of a list passes, seen by place
  all_by_place : (p : X → Bool) (xs : List X) → ((i : ℕ) (d : X) → i < length xs → p (get_or xs i d) ≡ true) → list_all p xs ≡ true
  all_by_place p [] each = refl
  all_by_place p (x ∷ xs) each =
      rw (each 0 x (omega arith), all_by_place p xs (λ i d within. each (suc i) d (omega arith)))

  all_permuted : (p : X → Bool) (xs ys : List X) → IsPermutation xs ys → list_all p xs ≡ true → list_all p ys ≡ true
  all_permuted p xs ys permuted all =
      list_all-from_AllPass p ys (All-permutation (λ x. p x ≡ true) xs ys permuted (AllPass-from_list_all p xs all))

  -- where none is found all fail
  none_passes : (p : X → Bool) (xs : List X) → find p xs ≡ None → list_all (λ x. not (p x)) xs ≡ true
  none_passes p [] none = refl
  none_passes p (x ∷ xs) none =
      ⊎_elim
      (λ (yes : p x ≡ true). absurd (none-some x (sym (rw yes at none))))
      (λ (no : p x ≡ false). rw (no, none_passes p xs (rw no at none)))
      (cases_Bool (p x))

  -- and none is left
  pub none_left : (p : X → Bool) (xs : List X) → list_all (λ x. not (p x)) xs ≡ true → filter p xs ≡ []
  none_left p [] all = refl
  none_left p (x ∷ xs) all =
      let parts = and_parts (not (p x)) (list_all (λ y. not (p y)) xs) all in
      rw (not-true (p x) parts.0, none_left p xs parts.1)

  -- the first that passes one test is found by another that it passes among those that pass the first
  found_again : (p t : X → Bool) (xs : List X) (x : X) → find p xs ≡ Some x → t x ≡ true → find t (filter p xs) ≡ Some x
  found_again p t [] x found passes = absurd (none-some x found)
  found_again p t (y ∷ ys) x found passes =
      ⊎_elim
      (λ (yes : p y ≡ true). rw (yes, same_Some y x (rw yes at found), passes))
      (λ (no : p y ≡ false). rw no (found_again p t ys x (rw no at found) passes))
      (cases_Bool (p y))

  -- two tests are one, and may be asked in either order
  pub found_both : (p t : X → Bool) (xs : List X) → find t (filter p xs) ≡ find (λ x. p x && t x) xs
  found_both p t [] = refl
  found_both p t (x ∷ xs) =
      ⊎_elim
      (λ (yes : p x ≡ true). rw (yes, found_both p t xs))
      (λ (no : p x ≡ false). rw (no, found_both p t xs))
      (cases_Bool (p x))

  found_either : (p t : X → Bool) (xs : List X) → find t (filter p xs) ≡ find p (filter t xs)
  found_either p t xs =
      rw (found_both p t xs, found_both t p xs)
      (found_alike (λ x. p x && t x) (λ x. t x && p x) (λ x. and_comm (p x) (t x)) xs)

  -- tests that agree on those that pass a third find the same among them
  pub found_among : (p q r : X → Bool) → ((x : X) → r x ≡ true → p x ≡ q x) → (xs : List X) → list_all r xs ≡ true → find p xs ≡ find q xs
  found_among p q r same [] all = refl
  found_among p q r same (y ∷ ys) all =
      let parts = and_parts (r y) (list_all r ys) all in
      rw (same y parts.0, found_among p q r same ys parts.1)

  -- all that pass pass another test too
  all_kept : (p q : X → Bool) (xs : List X) → list_all q (filter p xs) ≡ list_all (λ x. not (p x) || q x) xs
  all_kept p q [] = refl
  all_kept p q (y ∷ ys) =
      ⊎_elim
      (λ (yes : p y ≡ true). rw (yes, all_kept p q ys))
      (λ (no : p y ≡ false). rw (no, all_kept p q ys))
      (cases_Bool (p y))

-- what a comparison says of itself the other way round
le_or_gt : (o : Ordering) → is_lt (ordering_reverse o) ≡ false → is_le o ≡ true
le_or_gt Less h = refl
le_or_gt Equal h = refl
le_or_gt Greater h = sym h

tied : (o : Ordering) → is_le o ≡ true → is_le (ordering_reverse o) ≡ (not (is_lt o) && not (is_lt (ordering_reverse o)))
tied Less h = refl
tied Equal h = refl
tied Greater h = absurd (true≢false (sym h))

module _ {X : Type 0} (R : X → X → Ordering) (o : IsTotalOrder R) where
  -- from the greatest down
  abbrev pub falls : X → X → Bool
  falls x y = is_lt (R y x)

  back : (x y : X) → R x y ≡ ordering_reverse (R y x)
  back x y = o.antisymm x y

  not_above : (x y : X) → falls y x ≡ false → is_le (R y x) ≡ true
  not_above x y h = le_or_gt (R y x) (rw (back x y) at h)

  -- each is at most those before it
  abbrev pub Sorted : List X → Type 0
  Sorted [] = Unit {0}
  Sorted (x ∷ xs) = (list_all (λ y. is_le (R y x)) xs ≡ true) × Sorted xs

  -- so are all to a place of it
  ranks : IsStrictWeakOrder falls
  ranks = IsStrictWeakOrder-flip (λ x y. is_lt (R x y)) (ranks_by o (λ x. x))

  one_up : (k : ℕ) → suc k + 1 ≡ suc (k + 1)
  one_up k = omega arith

  pub sorted_by_place : (xs : List X) → IsSortedBy falls xs → Sorted xs
  sorted_by_place [] up = tt
  sorted_by_place (x ∷ xs) up =
      let far = sorted_far falls ranks (x ∷ xs) up 0 in (
        all_by_place (λ y. is_le (R y x)) xs (λ i d within. not_above x (get_or xs i d) (far (suc i) d (omega arith) (omega arith))),
        sorted_by_place xs (λ k d low high. rw (one_up k) at (up (suc k) d (omega arith) (omega arith))),
      )

  module _ (p : X → Bool) where
    -- those after the first that passes are at most it
    abbrev most : X → X → Bool
    most x y = not (p y) || is_le (R y x)

    weaker : (x : X) (ys : List X) → list_all (λ y. is_le (R y x)) ys ≡ true → list_all (most x) ys ≡ true
    weaker x ys all = all_through (λ y. is_le (R y x)) (most x) (λ y. or_right (not (p y)) (is_le (R y x))) ys all

    first_most : (ys : List X) (x : X) → Sorted ys → find p ys ≡ Some x → list_all (most x) ys ≡ true
    first_most [] x sorted found = absurd (none-some x found)
    first_most (y ∷ ys) x sorted found =
        ⊎_elim
        (λ (yes : p y ≡ true).
        let same = same_Some y x (rw yes at found) in
        rw (yes, same, tied_itself o x, weaker x ys (rw same at sorted.0)))
        (λ (no : p y ≡ false). rw (no, first_most ys x sorted.1 (rw no at found)))
        (cases_Bool (p y))

    module _ (xs ys : List X) (sorted : Sorted ys) (permuted : IsPermutation xs ys) (stable : IsStableBy falls xs ys) where
      back_permuted : (q : X → Bool) → list_all q ys ≡ true → list_all q xs ≡ true
      back_permuted q = all_permuted q ys xs (IsPermutation-sym xs ys permuted)

      -- of those that pass, the ones that tie with it are the greatest
      module _ (x : X) (found : find p ys ≡ Some x) where
        all_below : list_all (λ z. is_le (R z x)) (filter p xs) ≡ true
        all_below = rw (all_kept p (λ z. is_le (R z x)) xs) (back_permuted (most x) (first_most ys x sorted found))

        up : (y : X) → is_le (R x y) ≡ true → is_top R o (filter p xs) y ≡ true
        up y le = all_through (λ z. is_le (R z x)) (λ z. is_le (R z y)) (λ z h. at_most-trans R o z x y h le) (filter p xs) all_below

        down : (y : X) → is_top R o (filter p xs) y ≡ true → is_le (R x y) ≡ true
        down y top =
            let below = all_permuted (most y) xs ys permuted (rw (all_kept p (λ z. is_le (R z y)) xs) at top) in
            rw (find_passes p ys x found) at (found_within p (most y) ys x found below)

        ties_le : (y : X) → is_le (R y x) ≡ true → ties falls x y ≡ is_le (R x y)
        ties_le y below = rw (back x y) (sym (tied (R y x) below))

        is_top_alike : (y : X) → is_le (R y x) ≡ true → is_top R o (filter p xs) y ≡ ties falls x y
        is_top_alike y below =
            rw (ties_le y below)
            (⊎_elim
            (λ (le : is_le (R x y) ≡ true). rw (le, up y le))
            (λ (gt : is_le (R x y) ≡ false). rw gt (false_from_ne_true _ (λ top. true≢false (sym (down y top) ∙ gt))))
            (cases_Bool (is_le (R x y))))

        tied_found : find (ties falls x) (filter p ys) ≡ Some x
        tied_found = found_again p (ties falls x) ys x found (rw (tied_itself o x))

        top_is : top_of R o (filter p xs) ≡ Some x
        top_is =
            found_among (is_top R o (filter p xs)) (ties falls x) (λ z. is_le (R z x)) is_top_alike (filter p xs) all_below
            ∙ rw (found_either p (ties falls x) xs, ← stable x, ← found_either p (ties falls x) ys) tied_found

      by_found : (f : Option X) → find p ys ≡ f → f ≡ top_of R o (filter p xs)
      by_found None none = rw (none_left p xs (back_permuted (λ x. not (p x)) (none_passes p ys none)))
      by_found (Some x) found = sym (top_is x found)

      -- the first that passes in a list that a stable sort put in order is the greatest of those that pass
      pub first_is_top : find p ys ≡ top_of R o (filter p xs)
      first_is_top = by_found (find p ys) refl

-- seen through a function, where that decides the order
module _ {X K : Type 0} (R : K → K → Ordering) (o : IsTotalOrder R) (seen : X → K) where
  abbrev pub by_seen : X → X → Ordering
  by_seen x y = R (seen x) (seen y)

  abbrev pub by_seen-total : IsTotalOrder by_seen
  by_seen-total = on_total seen o

  find_seen : (p : K → Bool) (xs : List X) → find p (map seen xs) ≡ option_map seen (find (λ x. p (seen x)) xs)
  find_seen p [] = refl
  find_seen p (x ∷ xs) =
      ⊎_elim
      (λ (yes : p (seen x) ≡ true). rw yes)
      (λ (no : p (seen x) ≡ false). rw no (find_seen p xs))
      (cases_Bool (p (seen x)))

  filter_seen : (p : K → Bool) (xs : List X) → filter p (map seen xs) ≡ map seen (filter (λ x. p (seen x)) xs)
  filter_seen p [] = refl
  filter_seen p (x ∷ xs) =
      ⊎_elim
      (λ (yes : p (seen x) ≡ true). rw (yes, filter_seen p xs))
      (λ (no : p (seen x) ≡ false). rw no (filter_seen p xs))
      (cases_Bool (p (seen x)))

  top_seen : (xs : List X) → top_of R o (map seen xs) ≡ option_map seen (top_of by_seen by_seen-total xs)
  top_seen xs =
      let top : X → Bool = λ x. is_top R o (map seen xs) (seen x) in
      find_seen (is_top R o (map seen xs)) xs
      ∙ ap (option_map seen) (found_alike top (is_top by_seen by_seen-total xs) (λ x. list_all-map (λ other. is_le (R other (seen x))) seen xs) xs)

  abbrev pub seen_falls : X → X → Bool
  seen_falls = falls by_seen by_seen-total

  pub first_seen : (p : K → Bool) (xs ys : List X) → IsSortedBy seen_falls ys → IsPermutation xs ys → IsStableBy seen_falls xs ys → find p (map seen ys) ≡ top_of R o (filter p (map seen xs))
  first_seen p xs ys up permuted stable =
      let sorted = sorted_by_place by_seen by_seen-total ys up in
      rw (find_seen p ys, filter_seen p xs, top_seen (filter (λ x. p (seen x)) xs))
      (ap (option_map seen) (first_is_top by_seen by_seen-total (λ x. p (seen x)) xs ys sorted permuted stable))
