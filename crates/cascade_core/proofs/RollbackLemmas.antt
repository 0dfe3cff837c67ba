-- Along declarations from the greatest down, the last bound is all that is to be kept of the way.
use Rattle.std.proofs.Common.{◌≡◌, ◌<◌, ◌≤◌, Bool, true, false, cond, List, [], ◌∷◌, find, filter, Option, Some, None, refl, sym, ap, ◌∙◌, ⊎_elim, arith}
use Rattle.std.proofs.lemmas.Bool.{true≢false, false≢true, cases_Bool, ltb-true, lt-ltb, le-ltb, false_from_ne_true}
use Rattle.std.proofs.lemmas.Cmp.{nat_cmp_total, on_total, then_total, tied_itself, ranked, by_ranked}
use Rattle.std.specs.Cmp.{IsTotalOrder, bool_cmp_total}
use Rattle.std.specs.Ordering.{is_lt, nat_cmp}
use Rattle.base_model.specs.Origin.{origin_rank}
use Rattle.syntax_model.specs.Wide.{inherit, initial, unset, revert, revert_layer}
use Rattle.sheet_model.specs.Declared.{Given}
use Rattle.cascade_model.specs.Key.{Matched}
use Rattle.cascade_model.specs.Winner.{greatest_of}
use Rattle.cascade_model.specs.Ending.{Ending, Meaning, keyword, value, ending_of, ending_on}
use Rattle.cascade_model.proofs.EndingLemmas.{ending_of-step}
use Rattle.cascade_core.specs.Rollback.{Descends, Level, level_of, compare_level, Bound, unbounded, below_origin, below_level, keeps, settled, bound_by, walked}
use Rattle.base_model.proofs.Orderings.{is_less}

compare_level-total : IsTotalOrder compare_level
compare_level-total =
    then_total (on_total (λ (l : Level). l.rank) nat_cmp_total) (then_total (on_total (λ (l : Level). l.attached) bool_cmp_total) (on_total (λ (l : Level). l.layer) nat_cmp_total))

lower-trans : (a b c : Level) → is_lt (compare_level a b) ≡ true → is_lt (compare_level b c) ≡ true → is_lt (compare_level a c) ≡ true
lower-trans a b c h k =
    ap is_lt (compare_level-total.trans a b c (is_less (compare_level a b) h) (is_less (compare_level b c) k))

-- a lower level is of no higher origin, and what is of a lower origin is of a lower level
lower-rank : (a b : Level) → is_lt (compare_level a b) ≡ true → a.rank ≤ b.rank
lower-rank a b h =
    let order = ranked a.rank b.rank (nat_cmp a.rank b.rank) refl in
    by_ranked _ _ _ (nat_cmp a.rank b.rank) order (λ _ less. omega arith) (λ _ same. omega arith) (λ e _. absurd (false≢true (rw e at h)))

rank-lower : (a b : Level) → a.rank < b.rank → is_lt (compare_level a b) ≡ true
rank-lower a b lt =
    let order = ranked a.rank b.rank (nat_cmp a.rank b.rank) refl in
    by_ranked _ _ _ (nat_cmp a.rank b.rank) order (λ e _. rw e) (λ _ same. absurd (omega arith)) (λ _ more. absurd (omega arith))

-- whether a bound keeps no more than another
abbrev Fewer : Bound → Bound → Type 0
Fewer next bound = (d : Matched) → keeps next d ≡ true → keeps bound d ≡ true

-- a later bound keeps no more than the one before it
by_origin : (bound : Bound) (d : Matched) → keeps bound d ≡ true → Fewer (below_origin (origin_rank d.origin)) bound
by_origin unbounded d kept e lower = refl
by_origin (below_origin rank) d kept e lower =
    let h : origin_rank d.origin < rank = ltb-true _ _ kept in
    let k : origin_rank e.origin < origin_rank d.origin = ltb-true _ _ lower in
    lt-ltb _ _ (omega arith)
by_origin (below_level level) d kept e lower =
    let h : origin_rank d.origin ≤ level.rank = lower-rank (level_of d) level kept in
    let k : origin_rank e.origin < origin_rank d.origin = ltb-true _ _ lower in
    rank-lower (level_of e) level (omega arith)

by_level : (bound : Bound) (d : Matched) → keeps bound d ≡ true → Fewer (below_level (level_of d)) bound
by_level unbounded d kept e lower = refl
by_level (below_origin rank) d kept e lower =
    let h : origin_rank d.origin < rank = ltb-true _ _ kept in
    let k : origin_rank e.origin ≤ origin_rank d.origin = lower-rank (level_of e) (level_of d) lower in
    lt-ltb _ _ (omega arith)
by_level (below_level level) d kept e lower = lower-trans (level_of e) (level_of d) level lower kept

-- and not the declaration that set it
not_origin : (d : Matched) → keeps (below_origin (origin_rank d.origin)) d ≡ false
not_origin d = le-ltb _ _ (omega arith)

not_level : (d : Matched) → keeps (below_level (level_of d)) d ≡ false
not_level d = ap is_lt (tied_itself compare_level-total (level_of d))

-- a filter after one that is less strict
pub stricter : {X : Type 0} (p q : X → Bool) → ((x : X) → q x ≡ true → p x ≡ true) → (xs : List X) → filter q (filter p xs) ≡ filter q xs
stricter p q h [] = refl
stricter p q h (x ∷ xs) =
    ⊎_elim
    (λ (yes : p x ≡ true). rw (yes, stricter p q h xs))
    (λ (no : p x ≡ false). rw (no, false_from_ne_true (q x) (λ e. true≢false (sym (h x e) ∙ no)), stricter p q h xs))
    (cases_Bool (p x))

module _ {A : Type 0} (means : Given → Meaning A) (ds ss : List Matched) (descends : Descends ds ss) where
  -- what is asked still is found in the rest
  abbrev IsAhead : Bound → List Matched → Type 0
  IsAhead bound rest = (q : Matched → Bool) → ((d : Matched) → q d ≡ true → keeps bound d ≡ true) → find q ss ≡ find q rest

  abbrev asked : Bound → List Matched
  asked bound = filter (keeps bound) ds

  abbrev Comes : Bound → List Matched → Type 0
  Comes bound rest = walked means bound rest ≡ ending_of means (asked bound)

  found_first : (bound : Bound) (rest : List Matched) (o : Option Matched) → IsAhead bound rest → find (keeps bound) rest ≡ o → greatest_of (asked bound) ≡ o
  found_first bound rest o ahead is = sym (descends (keeps bound)) ∙ (ahead (keeps bound) (λ d k. k) ∙ is)

  at_end : (bound : Bound) → IsAhead bound [] → Comes bound []
  at_end bound ahead = rw (ending_of-step means (asked bound), found_first bound [] None ahead refl)

  -- past a declaration that a bound leaves out, where no more are asked than before
  passed : (bound next : Bound) (d : Matched) (rest : List Matched) → Fewer next bound → keeps next d ≡ false → IsAhead bound (d ∷ rest) → IsAhead next rest
  passed bound next d rest fewer fails ahead = λ q within.
      let unasked : q d ≡ false = false_from_ne_true (q d) (λ e. true≢false (sym (within d e) ∙ fails)) in
      rw (ahead q (λ e h. fewer e (within e h)), unasked)

  abbrev Goes : List Matched → Type 0
  Goes rest = (bound : Bound) → IsAhead bound rest → Comes bound rest

  abbrev after : Matched → List Matched → Meaning A → Ending A
  after d rest meaning = elim (settled meaning) [
    | Some end ↦ end
    | None ↦ walked means (bound_by d meaning) rest
  ]

  module _ (bound : Bound) (d : Matched) (rest : List Matched) (goes : Goes rest) (ahead : IsAhead bound (d ∷ rest)) where
    -- one that takes the cascade back to a bound
    goes_back : (next : Bound) → Fewer next bound → keeps next d ≡ false → walked means next rest ≡ ending_of means (filter (keeps next) (asked bound))
    goes_back next fewer fails =
        rw (stricter (keeps bound) (keeps next) fewer ds) (goes next (passed bound next d rest fewer fails ahead))

    by_meaning : keeps bound d ≡ true → (meaning : Meaning A) → after d rest meaning ≡ ending_on (ending_of means) (asked bound) d meaning
    by_meaning kept (keyword inherit) = refl
    by_meaning kept (keyword initial) = refl
    by_meaning kept (keyword unset) = refl
    by_meaning kept (keyword revert) = goes_back (below_origin (origin_rank d.origin)) (by_origin bound d kept) (not_origin d)
    by_meaning kept (keyword revert_layer) = goes_back (below_level (level_of d)) (by_level bound d kept) (not_level d)
    by_meaning kept (value given) = refl

    by_kept : (b : Bool) → keeps bound d ≡ b → cond b (after d rest (means d.given)) (walked means bound rest) ≡ ending_of means (asked bound)
    by_kept true kept =
        rw (ending_of-step means (asked bound), found_first bound (d ∷ rest) (Some d) ahead (rw kept)) (by_meaning kept (means d.given))
    by_kept false fails = goes bound (passed bound bound d rest (λ e h. h) fails ahead)

  goes_on : (rest : List Matched) → Goes rest
  goes_on [] = at_end
  goes_on (d ∷ rest) = λ bound ahead. by_kept bound d rest (goes_on rest) ahead (keeps bound d) refl

  all_kept : (xs : List Matched) → filter (keeps unbounded) xs ≡ xs
  all_kept [] = refl
  all_kept (x ∷ xs) = ap (λ l. x ∷ l) (all_kept xs)

  -- the cascaded value by the declarations, from the greatest down
  pub walked_down : walked means unbounded ss ≡ ending_of means ds
  walked_down = goes_on ss unbounded (λ q within. refl) ∙ ap (ending_of means) (all_kept ds)
