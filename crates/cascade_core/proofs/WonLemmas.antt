-- The winner of each property, as declarations come one by one.
use Rattle.std.proofs.Common.{true, is_some, append-nil, append_assoc, get_or, take, length-set, ◌≡◌, ◌≢◌, ◌==◌, ℕ, zero, suc, ◌+◌, ◌<◌}
use Rattle.std.proofs.Common.{false, List, [], ◌∷◌, ◌++◌, Option, Some, None, slice_get, length, set, option_map, refl, sym, ap, ◌∙◌, ⊎_elim, arith}
use Rattle.std.specs.List.{flat_map, list_all}
use Rattle.std.proofs.lemmas.List.{take_more}
use Rattle.std.proofs.lemmas.Grind.{flat_map-append}
use Rattle.std.proofs.lemmas.Bool.{true≢false, and_parts, cases_eq, eqb-false, eqb-true, ne_eqb, or_parts}
use Rattle.std.proofs.lemmas.Option.{none-some, same_Some, slice_get_within}
use Rattle.base_model.proofs.Lists.{slice_get_some}
use Rattle.cascade_model.specs.Key.{Matched}
use Rattle.cascade_model.specs.Winner.{winner, declares_longhand}
use Rattle.cascade_model.proofs.WinnerLemmas.{winner_other}
use Rattle.sheet_model.specs.Declared.{longhand, is_longhand}
use Rattle.value_model.specs.Table.{table}
use Rattle.property_table.specs.PropertySet.{has_row, with_row}
use Rattle.property_table.proofs.SetLemmas.{has_row-with}
use Rattle.cascade_model.specs.Custom.{custom_name}
use Rattle.shorthands.specs.declared.declared.Target.{Target}
use Rattle.shorthands.specs.declared.declared.Target.TheVariants.{Longhand, Shorthand, Custom}
use Rattle.cascade_core.specs.View.{entry_of, head_of, is_custom_target, is_of_custom, lent_of, name_seen}
use Rattle.cascade_core.specs.Declarations.{at_place}
use Rattle.cascade_core.specs.Won.{won, AreWinners}
use Rattle.cascade_core.specs.declared.matched.LentMatched as code
use Rattle.cascade_core.specs.declared.places.Places.{Places}
use Rattle.cascade_core.proofs.BestLemmas.{still_custom, custom_added}
use Rattle.cascade_core.proofs.EntryLemmas.{matched_custom}

module _ {X : Type 0} where
  pub get-set_other : (xs : List X) (k n : ℕ) (x : X) → n ≢ k → slice_get (set xs k x) n ≡ slice_get xs n
  get-set_other [] k n x other = refl
  get-set_other (y ∷ ys) zero zero x other = absurd (other refl)
  get-set_other (y ∷ ys) zero (suc n) x other = refl
  get-set_other (y ∷ ys) (suc k) zero x other = refl
  get-set_other (y ∷ ys) (suc k) (suc n) x other = get-set_other ys k n x (λ same. other (ap suc same))

  pub get-set_same : (xs : List X) (k : ℕ) (x : X) → k < length xs → slice_get (set xs k x) k ≡ Some x
  get-set_same [] k x within = absurd (omega arith)
  get-set_same (y ∷ ys) zero x within = refl
  get-set_same (y ∷ ys) (suc k) x within = get-set_same ys k x (omega arith)

-- a declaration of another property
pub won_other : (ds : List Matched) (d : Matched) (q p : ℕ) → d.target ≡ longhand q → p ≢ q → won (ds ++ d ∷ []) p ≡ won ds p
won_other ds d q p target other = winner_other (declares_longhand p) ds d (ap (is_longhand p) target ∙ ne_eqb q p (λ e. other (sym e)))

module _ {X : Type 0} (seen : ℕ → X → Option Matched) (ds : List Matched) (d : Matched) (q : ℕ) (target : d.target ≡ longhand q) where
  abbrev AreBest : List Matched → List X → Type 0
  AreBest es best = (p : ℕ) (x : X) → slice_get best p ≡ Some x → won es p ≡ seen p x

  -- what wins once a declaration is added is kept at the row of its property
  pub best_put : (best : List X) (old new : X) → AreBest ds best → slice_get best q ≡ Some old → won (ds ++ d ∷ []) q ≡ seen q new → AreBest (ds ++ d ∷ []) (set best q new)
  best_put best old new are at wins = λ p o found.
      let put = get-set_same best q new (slice_get_within best q old at) in
      ⊎_elim
      (λ (e : p ≡ q). rw (e, wins, same_Some new o (rw (e, put) at found)))
      (λ (ne : p ≢ q). rw (won_other ds d q p target ne) (are p o (rw (get-set_other best q p new ne) at found)))
      (cases_eq p q)

  pub others_put : (declared : List ℕ) → ((p : ℕ) → has_row p declared ≡ false → p < length table → won ds p ≡ None)
      → (p : ℕ) → has_row p (with_row q declared) ≡ false → p < length table → won (ds ++ d ∷ []) p ≡ None
  others_put declared others p is in_table =
      let (unlike, before) = or_parts (q == p) (has_row p declared) (sym (has_row-with q p declared in_table) ∙ is) in
      rw (won_other ds d q p target (λ e. eqb-false q p unlike (sym e))) (others p before in_table)

-- with a winner for a property
abbrev with_winner : Places → ℕ → ℕ → Places
with_winner w q place = record w { rows = set w.rows q place; declared = with_row q w.declared }

-- what the first of a list give, after others, with one more of them
pub one_more : {X A : Type 0} (f : X → List A) (xs ys : List X) (i : ℕ) (x : X) → i < length ys → x ≡ get_or ys i x → flat_map f (xs ++ take i ys) ++ f x ≡ flat_map f (xs ++ take (i + 1) ys)
one_more f xs ys i x within at =
    rw (take_more ys i x within, ← at, ← append_assoc xs (take i ys) (x ∷ []), flat_map-append f (xs ++ take i ys) (x ∷ []), append-nil (f x))

-- the declaration at a place, in the first of two lists or in the second
module _ (first second : List code.LentMatched) where
  get_in_first : (first : List code.LentMatched) (k : ℕ) → k < length first → slice_get (first ++ second) k ≡ slice_get first k
  get_in_first [] k within = absurd (omega arith)
  get_in_first (x ∷ xs) zero within = refl
  get_in_first (x ∷ xs) (suc k) within = get_in_first xs k (omega arith)

  pub at_first : (place k : ℕ) → place ≡ suc k → k < length first → at_place (first ++ second) place ≡ slice_get first k
  at_first place k is within = ap (at_place (first ++ second)) is ∙ get_in_first first k within

  get_in_second : (first : List code.LentMatched) (n k : ℕ) → n ≡ length first + k → slice_get (first ++ second) n ≡ slice_get second k
  get_in_second [] n k is = ap (slice_get second) (omega (arith, is))
  get_in_second (x ∷ xs) zero k is = absurd (omega (arith, is))
  get_in_second (x ∷ xs) (suc n) k is = get_in_second xs n k (omega (arith, is))

  pub at_second : (place k : ℕ) → place ≡ suc (length first + k) → at_place (first ++ second) place ≡ slice_get second k
  at_second place k is = ap (at_place (first ++ second)) is ∙ get_in_second first (length first + k) k refl

not_longhand : (p : ℕ) (target : Target) → is_custom_target target ≡ true → is_longhand p (name_seen target) ≡ false
not_longhand p (Longhand id) h = absurd (true≢false (sym h))
not_longhand p (Shorthand short) h = absurd (true≢false (sym h))
not_longhand p (Custom name) h = refl

is_named : (target : Target) → is_custom_target target ≡ true → is_some (custom_name (name_seen target)) ≡ true
is_named (Longhand id) h = absurd (true≢false (sym h))
is_named (Shorthand short) h = absurd (true≢false (sym h))
is_named (Custom name) h = refl

module _ (list : List code.LentMatched) (w : Places) (ds : List Matched) (are : AreWinners list w ds) where
  -- a declaration of a property is put among the winners
  module _ (q : ℕ) (within : q < length table) (d : code.LentMatched) where
    pub put_one : (new : ℕ) → won (ds ++ entry_of q d ∷ []) q ≡ option_map (entry_of q) (at_place list new) → AreWinners list (with_winner w q new) (ds ++ entry_of q d ∷ [])
    put_one new wins =
        let (old, at) = slice_get_some w.rows q (omega (arith, within, are.long)) in
        let seen : ℕ → ℕ → Option Matched = λ p place. option_map (entry_of p) (at_place list place) in
        record {
          long = length-set w.rows q new ∙ are.long;
          best = best_put seen ds (entry_of q d) q refl w.rows old new are.best at wins;
          others = others_put seen ds (entry_of q d) q refl w.declared are.others;
          have_custom = are.have_custom ∙ sym (still_custom ds (entry_of q d) q refl);
        }

  -- one of a custom property changes nothing for the others
  pub put_custom : (d : code.LentMatched) → is_of_custom d ≡ true → AreWinners list (record w { have_custom = true }) (ds ++ lent_of d)
  put_custom d h =
      let same = λ (p : ℕ). winner_other (declares_longhand p) ds (head_of d) (not_longhand p d.declared.now.target h) in
      rw (matched_custom d h) (record {
        long = are.long;
        best = λ p o at. same p ∙ are.best p o at;
        others = λ p is within. same p ∙ are.others p is within;
        have_custom = sym (custom_added ds (head_of d) (is_named d.declared.now.target h));
      })

-- where all places are 0, each is
zero_at : (places : List ℕ) (p place : ℕ) → list_all (λ k. k == 0) places ≡ true → slice_get places p ≡ Some place → place ≡ 0
zero_at [] p place all at = absurd (none-some place at)
zero_at (x ∷ xs) zero place all at =
    sym (same_Some x place at) ∙ eqb-true x 0 (and_parts (x == 0) (list_all (λ k. k == 0) xs) all).0
zero_at (x ∷ xs) (suc p) place all at =
    zero_at xs p place (and_parts (x == 0) (list_all (λ k. k == 0) xs) all).1 at

nothing_won : (p : ℕ) → won [] p ≡ None
unfolding winner
nothing_won p = refl

-- of no declarations none wins
pub none_wins : (list : List code.LentMatched) (w : Places) → length w.rows ≡ length table → list_all (λ k. k == 0) w.rows ≡ true → w.declared ≡ [] → w.have_custom ≡ false → AreWinners list w []
none_wins list w long none unset absent = record {
  long = long;
  best = λ p place at. nothing_won p ∙ ap (λ k. option_map (entry_of p) (at_place list k)) (sym (zero_at w.rows p place none at));
  others = λ p is within. nothing_won p;
  have_custom = absent;
}
