-- For `ValueColumns::same_inherited`: two lists of values with the same values of the inherited properties.
use Rattle.std.proofs.Common.{◌≡◌, ℕ, ◌<◌, ◌≤◌, ◌+◌, ◌==◌, zero, suc, List, [], ◌∷◌, true, Option}
use Rattle.std.proofs.Common.{Some, None, length, map, get_or, drop, slice_get, option_map, refl, sym, ap, ◌∙◌, ⊎_elim, arith}
use Rattle.std.proofs.lemmas.Bool.{cases_lt, eq-eqb, or_right}
use Rattle.std.proofs.lemmas.List.{drop_all, drop_more, get_or-map, length-map}
use Rattle.std.proofs.lemmas.Option.{slice_get-get_or, slice_get_past}
use Rattle.value_model.specs.Value.{Value}
use Rattle.value_model.specs.Table.{PropertyRow, color_row, table}
use Rattle.value_model.specs.Style.{inherited_values, initial_style}
use Rattle.value_model.proofs.ByRow.{inherited-at, unsets as unset_row}
use Rattle.property_table.specs.PropertySet.{has_row}
use Rattle.property_table.specs.View.{inherited_properties, property_of}
use Rattle.property_table.specs.declared.property.PropId.{PropId}
use Rattle.style_value.specs.ColumnView.{replaced, with_value_in}
use Rattle.style_value.proofs.InheritedLemmas.{all_inherited, among_is, with_values_in}

-- Where two lists have the same values of the inherited properties from an index on, what they leave to a child is the
-- same.
abbrev pub AreSameFrom : List Value → List Value → ℕ → Type 0
AreSameFrom a b i = (values : List Value) → with_values_in a (drop i inherited_properties) values ≡ with_values_in b (drop i inherited_properties) values

abbrev pub Leads : List Value → List Value → ℕ → Type 0
Leads a b i = AreSameFrom a b i → inherited_values table a ≡ inherited_values table b

pub leads_first : (a b : List Value) → length a ≡ length table → length b ≡ length table → Leads a b 0
leads_first a b long longer same =
    sym (all_inherited a long) ∙ (same initial_style.values ∙ all_inherited b longer)

-- the property at an index
property_there : (ids : List PropId) (i : ℕ) (d : PropId)
    → map property_of ids ≡ inherited_properties → i < length ids → get_or inherited_properties i (property_of (get_or ids i d)) ≡ property_of (get_or ids i d)
property_there ids i d same lt =
    ap (λ l. get_or l i (property_of (get_or ids i d))) (sym same) ∙ get_or-map property_of ids i d (property_of (get_or ids i d)) lt

many : (ids : List PropId) → map property_of ids ≡ inherited_properties → length ids ≡ length inherited_properties
many ids same = sym (length-map ids property_of) ∙ ap length same

property_at : (ids : List PropId) (i : ℕ) (d : PropId)
    → map property_of ids ≡ inherited_properties → i < length ids → drop i inherited_properties ≡ property_of (get_or ids i d) ∷ drop (i + 1) inherited_properties
property_at ids i d same lt =
    drop_more inherited_properties i (property_of (get_or ids i d)) (omega (arith, many ids same))
    ∙ ap (λ p. p ∷ drop (i + 1) inherited_properties) (property_there ids i d same lt)

pub leads_next : (ids : List PropId) (a b : List Value) (i : ℕ) (d : PropId)
    → map property_of ids ≡ inherited_properties → i < length ids → slice_get a (property_of (get_or ids i d)) ≡ slice_get b (property_of (get_or ids i d)) → Leads a b i → Leads a b (i + 1)
leads_next ids a b i d same lt here leads rest =
    let property : ℕ = property_of (get_or ids i d) in
    leads (λ values.
    ap (λ l. with_values_in a l values) (property_at ids i d same lt)
    ∙ (rest (with_value_in a property values)
    ∙ (ap (λ found. with_values_in b (drop (i + 1) inherited_properties) (replaced found property values)) here
    ∙ ap (λ l. with_values_in b l values) (sym (property_at ids i d same lt)))))

pub leads_last : (ids : List PropId) (a b : List Value) (i : ℕ) → map property_of ids ≡ inherited_properties → length ids ≤ i → Leads a b i → inherited_values table a ≡ inherited_values table b
leads_last ids a b i same past leads =
    let none : drop i inherited_properties ≡ [] = drop_all i inherited_properties (omega (arith, many ids same)) in
    leads (λ values. ap (λ l. with_values_in a l values) none ∙ ap (λ l. with_values_in b l values) (sym none))

-- and where they leave the same, the value of each inherited property is the same
has_at : (xs : List ℕ) (i d : ℕ) → i < length xs → has_row (get_or xs i d) xs ≡ true
has_at [] i d lt = absurd (omega arith)
has_at (x ∷ xs) zero d lt = rw (eq-eqb x x refl) refl
has_at (x ∷ xs) (suc i) d lt =
    or_right (get_or xs i d == x) (has_row (get_or xs i d) xs) (has_at xs i d (omega (arith, lt)))

by_row : (values : List Value) (k : ℕ) (row : PropertyRow) → slice_get table k ≡ Some row → row.inherited ≡ true → slice_get (inherited_values table values) k ≡ slice_get values k
by_row values k row at own = inherited-at table values k row at ∙ kept (slice_get values k)
  where
    kept : (o : Option Value) → option_map (unset_row k row) o ≡ o
    kept None = refl
    kept (Some v) = rw own refl

value_there : (values : List Value) (k : ℕ) → k < length table → has_row k inherited_properties ≡ true → slice_get (inherited_values table values) k ≡ slice_get values k
value_there values k lt has =
    by_row values k (get_or table k color_row) (slice_get-get_or table k color_row lt) (sym (among_is k lt) ∙ has)

pub same_there : (ids : List PropId) (a b : List Value) (i : ℕ) (d : PropId)
    → length a ≡ length table → length b ≡ length table → map property_of ids ≡ inherited_properties → i < length ids
    → inherited_values table a ≡ inherited_values table b → slice_get a (property_of (get_or ids i d)) ≡ slice_get b (property_of (get_or ids i d))
same_there ids a b i d long longer same lt left =
    let k : ℕ = property_of (get_or ids i d) in
    let has : has_row k inherited_properties ≡ true =
    ap (λ p. has_row p inherited_properties) (sym (property_there ids i d same lt))
    ∙ has_at inherited_properties i k (omega (arith, lt, many ids same)) in
    ⊎_elim
    (λ (within : k < length table). sym (value_there a k within has) ∙ (ap (λ l. slice_get l k) left ∙ value_there b k within has))
    (λ (past : length table ≤ k). slice_get_past a k (omega (arith, past, long)) ∙ sym (slice_get_past b k (omega (arith, past, longer))))
    (cases_lt k (length table))
