-- What the declarations of a property come to, round by round.
use Rattle.std.proofs.Common.{◌≡◌, ℕ, zero, suc, ◌<◌, ◌≤◌, nat_lt, Bool, true, false, cond, List, [], ◌∷◌, length, filter, find, Option, Some, None, refl, ap, ◌∙◌, ⊎_elim, arith}
use Rattle.std.proofs.lemmas.Bool.{true≢false, le-ltb}
use Rattle.std.proofs.lemmas.Cmp.{nat_cmp_total, tied_itself}
use Rattle.std.proofs.lemmas.Option.{none-some}
use Rattle.std.specs.Cmp.{bool_cmp_total}
use Rattle.std.specs.Option.{option_map_or}
use Rattle.std.specs.Ordering.{is_lt}
use Rattle.base_model.specs.Origin.{origin_rank}
use Rattle.syntax_model.specs.Wide.{inherit, initial, unset, revert, revert_layer}
use Rattle.sheet_model.specs.Declared.{Given}
use Rattle.cascade_model.specs.Key.{Matched, level_cmp}
use Rattle.cascade_model.specs.Winner.{is_greatest, greatest_of}
use Rattle.cascade_model.specs.Ending.{Ending, unsets, Meaning, keyword, value, of_lower_origin, of_lower_level, ending_on, ending_by, ending_within, ending_of}
use Rattle.cascade_model.proofs.WinnerLemmas.{first_or_rest}

not_below : (n : ℕ) → nat_lt n n ≡ false
not_below n = le-ltb n n (omega arith)

-- a declaration is not of a lower level than itself
level_itself : (d : Matched) → is_lt (level_cmp d d) ≡ false
level_itself d =
    rw (tied_itself nat_cmp_total (origin_rank d.origin), tied_itself bool_cmp_total d.attached, tied_itself nat_cmp_total d.layer) refl

kept_at_most : {X : Type 0} (b : Bool) (x : X) (xs : List X) (n : ℕ) → length xs ≤ n → length (cond b (x ∷ xs) xs) ≤ suc n
kept_at_most true x xs n h = omega arith
kept_at_most false x xs n h = omega arith

filter-at_most : {X : Type 0} (p : X → Bool) (xs : List X) → length (filter p xs) ≤ length xs
filter-at_most p [] = omega arith
filter-at_most p (x ∷ xs) = kept_at_most (p x) x (filter p xs) (length xs) (filter-at_most p xs)

dropped_below : {X : Type 0} (b : Bool) (x : X) (xs : List X) (n : ℕ) → b ≡ false → length xs ≤ n → length (cond b (x ∷ xs) xs) < suc n
dropped_below true x xs n e h = absurd (true≢false e)
dropped_below false x xs n e h = omega arith

kept_below : {X : Type 0} (b : Bool) (x : X) (xs : List X) (n : ℕ) → length xs < n → length (cond b (x ∷ xs) xs) < suc n
kept_below true x xs n h = omega arith
kept_below false x xs n h = omega arith

-- without one that was found the list is shorter
pub filter-drops : {X : Type 0} (p q : X → Bool) (xs : List X) (w : X) → find q xs ≡ Some w → p w ≡ false → length (filter p xs) < length xs
filter-drops p q [] w found dropped = absurd (none-some w found)
filter-drops p q (x ∷ xs) w found dropped =
    ⊎_elim
    (λ (e : (q x ≡ true) × (x ≡ w)). dropped_below (p x) x (filter p xs) (length xs) (ap p e.1 ∙ dropped) (filter-at_most p xs))
    (λ (e : find q xs ≡ Some w). kept_below (p x) x (filter p xs) (length xs) (filter-drops p q xs w e dropped))
    (first_or_rest (q x) x w (find q xs) found)

module _ {A : Type 0} (means : Given → Meaning A) where
  -- the endings agree on every list that is shorter than this one
  abbrev AgreeBelow : (List Matched → Ending A) → (List Matched → Ending A) → List Matched → Type 0
  AgreeBelow f g ds = (xs : List Matched) → length xs < length ds → f xs ≡ g xs

  on_meaning : (f g : List Matched → Ending A) (ds : List Matched) → AgreeBelow f g ds → (w : Matched) (meaning : Meaning A) → greatest_of ds ≡ Some w → ending_on f ds w meaning ≡ ending_on g ds w meaning
  on_meaning f g ds agree w (keyword inherit) found = refl
  on_meaning f g ds agree w (keyword initial) found = refl
  on_meaning f g ds agree w (keyword unset) found = refl
  on_meaning f g ds agree w (keyword revert) found =
      agree (of_lower_origin w ds) (filter-drops (λ d. nat_lt (origin_rank d.origin) (origin_rank w.origin)) (is_greatest ds) ds w found (not_below (origin_rank w.origin)))
  on_meaning f g ds agree w (keyword revert_layer) found =
      agree (of_lower_level w ds) (filter-drops (λ d. is_lt (level_cmp d w)) (is_greatest ds) ds w found (level_itself w))
  on_meaning f g ds agree w (value v) found = refl

  on_winner : (f g : List Matched → Ending A) (ds : List Matched) → AgreeBelow f g ds → (o : Option Matched) → greatest_of ds ≡ o → option_map_or (λ w. ending_on f ds w (means w.given)) o unsets ≡ option_map_or (λ w. ending_on g ds w (means w.given)) o unsets
  on_winner f g ds agree None found = refl
  on_winner f g ds agree (Some w) found = on_meaning f g ds agree w (means w.given) found

  -- rounds as many as declarations are enough
  same_ending : (n m : ℕ) (ds : List Matched) → length ds ≤ n → length ds ≤ m → ending_within n means ds ≡ ending_within m means ds
  same_ending zero zero ds h k = refl
  same_ending zero (suc m) [] h k = refl
  same_ending zero (suc m) (d ∷ ds) h k = absurd (omega arith)
  same_ending (suc n) zero [] h k = refl
  same_ending (suc n) zero (d ∷ ds) h k = absurd (omega arith)
  same_ending (suc n) (suc m) ds h k =
      on_winner (ending_within n means) (ending_within m means) ds (λ xs l. same_ending n m xs (omega arith) (omega arith)) (greatest_of ds) refl

  -- the law of one step
  pub ending_of-step : (ds : List Matched) → ending_of means ds ≡ ending_by (ending_of means) means ds
  unfolding ending_of
  ending_of-step [] = refl
  ending_of-step (d ∷ ds) =
      on_winner (ending_within (length ds) means) (ending_of means) (d ∷ ds) (λ xs l. same_ending (length ds) (length xs) xs (omega arith) (omega arith)) (greatest_of (d ∷ ds)) refl
