-- One element more whose style is known by a number.
use Rattle.std.proofs.Common.{◌≡◌, ◌≢◌, ℕ, ◌+◌, ◌<◌, ◌==◌, ◌||◌, Bool, true, false, List, [], ◌∷◌, length, take, get_or, set, slice_get, Option, Some, None, option_and_then, refl, sym, ap, ◌∙◌, subst, arith, add-one, length-set}
use Rattle.std.proofs.lemmas.Bool.{eqb-true}
use Rattle.std.proofs.lemmas.List.{get_or-set_same, get_or-set_other}
use Rattle.std.proofs.lemmas.List.Folds.{list_any-append}
use Rattle.std.proofs.lemmas.Option.{slice_get-get_or, slice_get_within, get_or_from_slice_get}
use Rattle.std.proofs.Math.Seq.{take-suc}
use Rattle.scene_model.proofs.Numbers.{is_in, same_number}
use Rattle.value_model.specs.Style.{Style}
use Rattle.plain_style.specs.Known.{style_at}
use Rattle.element_styler.proofs.CacheLemmas.{kept_at}

or_cases : (b a : Bool) → (a || (b || false)) ≡ true → b ≡ false → a ≡ true
or_cases b true h none = refl
or_cases true false h none = cc
or_cases false false h none = h

in_more : (order : List ℕ) (k q : ℕ) → k < length order → is_in q (take (k + 1) order) ≡ (is_in q (take k order) || ((get_or order k 0 == q) || false))
in_more order k q below = ap (λ m. is_in q (take m order)) (add-one k) ∙ ap (is_in q) (take-suc order k 0 below) ∙ list_any-append (λ y. y == q) (take k order) (get_or order k 0 ∷ [])

differ : (x q : ℕ) → (x == q) ≡ false → q ≢ x
differ x q apart e = let same : (x == x) ≡ true = same_number x in cc

-- the style of one element more is in a table, which has grown, by this number
module _ (style : ℕ → Style) (table more : List Style) (places : List ℕ) (x n : ℕ) (within : x < length places) (kept : take (length table) more ≡ table) (is : slice_get more n ≡ Some (style x)) where
  abbrev known : List ℕ
  known = set places x n

  style_here : style_at more known x ≡ Some (style x)
  style_here =
      let at : slice_get known x ≡ Some n = slice_get-get_or known x 0 (omega (arith, within, length-set places x n)) ∙ ap Some (get_or-set_same places x n 0 within) in
      ap (option_and_then (slice_get more)) at ∙ is

  style_of_other : (q : ℕ) (o : Option ℕ) → (x == q) ≡ false → slice_get places q ≡ o → option_and_then (slice_get table) o ≡ Some (style q) → style_at more known q ≡ Some (style q)
  style_of_other q None apart at before = cc
  style_of_other q (Some place) apart at before =
      let below : q < length places = slice_get_within places q place at in
      let same : slice_get known q ≡ Some place = slice_get-get_or known q 0 (omega (arith, below, length-set places x n)) ∙ ap Some (get_or-set_other places x q n 0 (differ x q apart) ∙ get_or_from_slice_get places q place 0 at) in
      ap (option_and_then (slice_get more)) same ∙ kept_at table more place (style q) kept before

  known_one : (q : ℕ) (b before : Bool) → (x == q) ≡ b → (before ≡ true → style_at table places q ≡ Some (style q)) → (before || (b || false)) ≡ true → style_at more known q ≡ Some (style q)
  known_one q true before e old there = subst (λ y. style_at more known y ≡ Some (style y)) (eqb-true x q e) style_here
  known_one q false before e old there = style_of_other q (slice_get places q) e refl (old (or_cases false before there refl))

-- the styles of the first numbers of an order are known, and of one more
pub known_more : (style : ℕ → Style) (table more : List Style) (places order : List ℕ) (k n : ℕ) → k < length order → get_or order k 0 < length places → take (length table) more ≡ table → slice_get more n ≡ Some (style (get_or order k 0))
    → ((q : ℕ) → is_in q (take k order) ≡ true → style_at table places q ≡ Some (style q)) → (q : ℕ) → is_in q (take (k + 1) order) ≡ true → style_at more (set places (get_or order k 0) n) q ≡ Some (style q)
known_more style table more places order k n below within kept is old q there =
    let x : ℕ = get_or order k 0 in
    known_one style table more places x n within kept is q (x == q) (is_in q (take k order)) refl (old q) (sym (in_more order k q below) ∙ there)

-- the number that is kept for an element, and its style in the table
pub record IsKnownPlace (table : List Style) (places : List ℕ) (x : ℕ) (style : Style) : Type 0 where
  pub within : x < length places
  pub below : get_or places x 0 < length table
  pub is : slice_get table (get_or places x 0) ≡ Some style

pub known_place : (table : List Style) (places : List ℕ) (x : ℕ) (style : Style) → style_at table places x ≡ Some style → IsKnownPlace table places x style
known_place table places x style known = by (slice_get places x) refl known
  where
    by : (o : Option ℕ) → slice_get places x ≡ o → option_and_then (slice_get table) o ≡ Some style → IsKnownPlace table places x style
    by None at is = absurd (cc)
    by (Some place) at is =
        let same : get_or places x 0 ≡ place = get_or_from_slice_get places x place 0 at in
        let here : slice_get table (get_or places x 0) ≡ Some style = ap (slice_get table) same ∙ is in
        record {
          within = slice_get_within places x place at;
          below = slice_get_within table (get_or places x 0) style here;
          is = here;
        }
