-- For `set_values`: whether an element takes, on the way over the properties that are declared.
use Rattle.std.proofs.Common.{◌≡◌, ◌≢◌, ◌&&◌, ◌||◌, not, ℕ, ◌+◌, ◌<◌, zero, suc, Bool, true, false, List, [], ◌∷◌, Some, slice_get, length, sym, ap, ◌∙◌, ⊎_elim, arith, refl}
use Rattle.std.proofs.Math.Bool.{and-false}
use Rattle.std.proofs.lemmas.Bool.{cases_eq, ne_eqb, or_cases, or_parts, or_right, true≢false}
use Rattle.std.proofs.lemmas.Option.{slice_get_within}
use Rattle.value_model.specs.Table.{PropertyRow, table, font_size_property, font_size_row}
use Rattle.cascade_model.specs.Ending.{unsets, ending}
use Rattle.property_table.specs.PropertySet.{has_row, without_row}
use Rattle.takes_model.specs.Takes.{is_inherits, takes_from, takes}
use Rattle.takes_model.proofs.TakesLemmas.{font_rows}
use Rattle.cascade_core.proofs.FilledLemmas.{Sources, not_left}

same_row : (a b : PropertyRow) → Some a ≡ Some b → a ≡ b
same_row a b same = cc

from_zero : (p k : ℕ) → p ≡ 0 + k → p ≡ k
from_zero p k is = omega (arith, is)

module _ (s : Sources) where
  -- whether a property is one that takes
  abbrev pub taken_at : ℕ → PropertyRow → Bool
  taken_at p row = not row.inherited && is_inherits (ending s.custom p s.ds)

  -- Told so far; the properties in `rest` are not yet looked at.
  pub record IsPartlyTold (told : Bool) (rest : List ℕ) : Type 0 where
    pub yes : told ≡ true → takes s.custom s.ds ≡ true
    pub no : told ≡ false → (p : ℕ) (row : PropertyRow) → slice_get table p ≡ Some row → has_row p rest ≡ false → taken_at p row ≡ false

  -- along the rows of a table from one property on
  some_taken : (property : ℕ) (rows : List PropertyRow) (k p : ℕ) (row : PropertyRow) → p ≡ property + k → slice_get rows k ≡ Some row
      → taken_at p row ≡ true → takes_from s.custom s.ds property rows ≡ true
  some_taken property [] k p row is at taken = absurd (cc)
  some_taken property (r ∷ rows) zero p row is at taken =
      let here : r ≡ row = cc in
      let first : property ≡ p = omega (arith, is) in
      rw (here, first, taken)
  some_taken property (r ∷ rows) (suc k) p row is at taken =
      or_right (taken_at property r) (takes_from s.custom s.ds (property + 1) rows) (some_taken (property + 1) rows k p row (omega (arith, is)) at taken)

  none_taken : (property : ℕ) (rows : List PropertyRow)
      → ((k p : ℕ) (row : PropertyRow) → p ≡ property + k → slice_get rows k ≡ Some row → taken_at p row ≡ false)
      → takes_from s.custom s.ds property rows ≡ false
  none_taken property [] none = refl
  none_taken property (row ∷ rows) none =
      let first = none zero property row (omega arith) refl in
      let others = none_taken (property + 1) rows (λ k p other is at. none (suc k) p other (omega (arith, is)) at) in
      rw (first, others)

  -- at first nothing is told, and no property without a declaration takes
  module _ (declared : List ℕ) (others : (p : ℕ) → has_row p declared ≡ false → p < length table → ending s.custom p s.ds ≡ unsets) where
    not_taken : (p : ℕ) (row : PropertyRow) → slice_get table p ≡ Some row → has_row p (without_row font_size_property declared) ≡ false → taken_at p row ≡ false
    not_taken p row at left =
        ⊎_elim
        (λ (e : p ≡ font_size_property).
        let of_size : row ≡ font_size_row = same_row _ _ (sym at ∙ (ap (slice_get table) e ∙ font_rows.0)) in rw of_size refl)
        (λ (ne : p ≢ font_size_property).
        let ends = others p (not_left font_size_property p declared ne left) (slice_get_within table p row at) in rw (ends, and-false (not row.inherited)))
        (cases_eq p font_size_property)

    pub told_first : IsPartlyTold false (without_row font_size_property declared)
    told_first = record { yes = λ e. absurd (true≢false (sym e)); no = λ e. not_taken }

  -- then one more
  module _ (told : Bool) (q : ℕ) (rest : List ℕ) (so_far : IsPartlyTold told (q ∷ rest)) (row : PropertyRow) (at : slice_get table q ≡ Some row) where
    yes_next : (told || taken_at q row) ≡ true → takes s.custom s.ds ≡ true
    unfolding takes
    yes_next h = ⊎_elim so_far.yes (some_taken 0 table q q row (omega arith) at) (or_cases told (taken_at q row) h)

    no_next : (told || taken_at q row) ≡ false → (p : ℕ) (other : PropertyRow) → slice_get table p ≡ Some other → has_row p rest ≡ false → taken_at p other ≡ false
    no_next h p other there left =
        let parts = or_parts told (taken_at q row) h in
        ⊎_elim
        (λ (e : p ≡ q).
        let same : other ≡ row = same_row _ _ (sym there ∙ (ap (slice_get table) e ∙ at)) in rw (same, e) parts.1)
        (λ (ne : p ≢ q). so_far.no parts.0 p other there (rw (ne_eqb p q ne) left))
        (cases_eq p q)

    pub told_next : IsPartlyTold (told || taken_at q row) rest
    told_next = record { yes = yes_next; no = no_next }

  -- and at the end all is told
  all_no : IsPartlyTold false [] → takes s.custom s.ds ≡ false
  unfolding takes
  all_no so_far = none_taken 0 table (λ k p row is at. so_far.no refl p row (rw (from_zero p k is) at) refl)

  told_none : (told : Bool) → IsPartlyTold told [] → told ≡ takes s.custom s.ds
  told_none true so_far = sym (so_far.yes refl)
  told_none false so_far = sym (all_no so_far)

  pub told_all : (told : Bool) (rest : List ℕ) → IsPartlyTold told rest → rest ≡ [] → told ≡ takes s.custom s.ds
  told_all told rest so_far none = told_none told (rw none at so_far)
