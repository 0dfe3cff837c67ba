-- The values of a style that inherits, made property by property.
use Rattle.std.proofs.Common.{◌≡◌, ℕ, ◌<◌, ◌≤◌, ◌+◌, ◌==◌, ◌||◌, List, [], ◌∷◌, Bool, true, false, if◌then◌else◌, Option, Some, None, length, map, get_or, drop, slice_get, option_map, refl, sym, ap, ◌∙◌, arith, get_or-set_same, get_or-set_other}
use Rattle.std.specs.List.{range_with_len}
use Rattle.std.proofs.lemmas.Bool.{eqb-true, eqb-false}
use Rattle.std.proofs.lemmas.List.{drop_all, drop_more, get_or-map, length-map, length-set, same_lists}
use Rattle.std.proofs.lemmas.List.FromFn.{get_or-map-range_with_len}
use Rattle.std.proofs.lemmas.Option.{get_or_from_slice_get, none-some, slice_get-get_or}
use Rattle.value_model.specs.Value.{Value}
use Rattle.value_model.specs.Table.{PropertyRow, color_row, table}
use Rattle.value_model.specs.Style.{inherited_values, initial_style}
use Rattle.value_model.proofs.ByRow.{inherited-at, length-inherited}
use Rattle.property_table.specs.PropertySet.{has_row}
use Rattle.property_table.specs.View.{inherited_properties, property_of}
use Rattle.property_table.specs.declared.property.PropId.{PropId}
use Rattle.property_table.proofs.RowLemmas.{length-table}
use Rattle.style_value.specs.ColumnView.{replaced, with_value_in}

-- the properties of a list get their values in another one
abbrev pub with_values_in : List Value → List ℕ → List Value → List Value
with_values_in parents [] values = values
with_values_in parents (property ∷ properties) values = with_values_in parents properties (with_value_in parents property values)

length-replaced : (found : Option Value) (property : ℕ) (values : List Value) → length (replaced found property values) ≡ length values
length-replaced None property values = refl
length-replaced (Some value) property values = length-set values property value

pub length-with_values : (parents : List Value) (properties : List ℕ) (values : List Value) → length (with_values_in parents properties values) ≡ length values
length-with_values parents [] values = refl
length-with_values parents (property ∷ properties) values =
    length-with_values parents properties (with_value_in parents property values)
    ∙ length-replaced (slice_get parents property) property values

-- one property has its value in the other list
replaced_here : (parents values : List Value) (k : ℕ) (d : Value) (found : Option Value) → slice_get parents k ≡ found → k < length parents → k < length values → get_or (replaced found k values) k d ≡ get_or parents k d
replaced_here parents values k d None h lt within = absurd (none-some _ (sym h ∙ slice_get-get_or parents k d lt))
replaced_here parents values k d (Some value) h lt within =
    get_or-set_same values k value d within ∙ sym (get_or_from_slice_get parents k value d h)

-- each other one keeps its own
replaced_other : (values : List Value) (k property : ℕ) (d : Value) (found : Option Value) → (k ≡ property → ⊥) → get_or (replaced found property values) k d ≡ get_or values k d
replaced_other values k property d None ne = refl
replaced_other values k property d (Some value) ne = get_or-set_other values property k value d ne

replaced_at : (parents values : List Value) (k property : ℕ) (d : Value) (test : Bool) → (k == property) ≡ test → k < length parents → k < length values → get_or (with_value_in parents property values) k d ≡ (if test then get_or parents k d else get_or values k d)
replaced_at parents values k property d true h lt within =
    ap (λ p. get_or (with_value_in parents p values) k d) (sym (eqb-true k property h))
    ∙ replaced_here parents values k d (slice_get parents k) refl lt within
replaced_at parents values k property d false h lt within =
    replaced_other values k property d (slice_get parents property) (eqb-false k property h)

either : (one other : Bool) (x y : Value) → (if other then x else (if one then x else y)) ≡ (if one || other then x else y)
either true true x y = refl
either true false x y = refl
either false true x y = refl
either false false x y = refl

-- the value of each property
pub with_values_at : (parents : List Value) (properties : List ℕ) (values : List Value) (k : ℕ) (d : Value) → k < length parents → k < length values → get_or (with_values_in parents properties values) k d ≡ (if has_row k properties then get_or parents k d else get_or values k d)
with_values_at parents [] values k d lt within = refl
with_values_at parents (property ∷ properties) values k d lt within =
    let next : List Value = with_value_in parents property values in
    let more : k < length next = omega (arith, within, length-replaced (slice_get parents property) property values) in
    with_values_at parents properties next k d lt more
    ∙ (ap (λ v. if has_row k properties then get_or parents k d else v) (replaced_at parents values k property d (k == property) refl lt within)
    ∙ either (k == property) (has_row k properties) (get_or parents k d) (get_or values k d))

-- which properties are inherited
all_among : map (λ k. has_row k inherited_properties) (range_with_len 0 (length table)) ≡ map (λ (row : PropertyRow). row.inherited) table
unfolding table
all_among = refl

pub among_is : (k : ℕ) → k < length table → has_row k inherited_properties ≡ (get_or table k color_row).inherited
among_is k lt =
    sym (get_or-map-range_with_len (λ k. has_row k inherited_properties) 0 (length table) k k false (omega (arith, length-table)) (omega arith))
    ∙ (ap (λ l. get_or l k false) all_among ∙ get_or-map (λ (row : PropertyRow). row.inherited) table k color_row false lt)

-- the initial values with the inherited ones of the parent
pub all_inherited : (parents : List Value) → length parents ≡ length table → with_values_in parents inherited_properties initial_style.values ≡ inherited_values table parents
all_inherited parents h =
    let long : length initial_style.values ≡ length table = length-map table (λ (row : PropertyRow). row.initial) in
    let same : length (with_values_in parents inherited_properties initial_style.values) ≡ length (inherited_values table parents) =
    length-with_values parents inherited_properties initial_style.values ∙ (long ∙ sym (length-inherited table parents h ∙ h)) in
    same_lists _ _ same (λ k d lt.
    let row : PropertyRow = get_or table k color_row in
    let in_table : k < length table = omega (arith, lt, long, length-with_values parents inherited_properties initial_style.values) in
    let in_parents : k < length parents = omega (arith, in_table, h) in
    let initial : get_or initial_style.values k d ≡ row.initial = get_or-map (λ (row : PropertyRow). row.initial) table k color_row d in_table in
    let here : slice_get (inherited_values table parents) k ≡ Some (if row.inherited then get_or parents k d else row.initial) =
    inherited-at table parents k row (slice_get-get_or table k color_row in_table)
    ∙ ap (option_map (λ v. if row.inherited then v else row.initial)) (slice_get-get_or parents k d in_parents) in
    with_values_at parents inherited_properties initial_style.values k d in_parents (omega (arith, in_table, long))
    ∙ (ap (λ b. if b then get_or parents k d else get_or initial_style.values k d) (among_is k in_table)
    ∙ (ap (λ v. if row.inherited then get_or parents k d else v) initial
    ∙ sym (get_or_from_slice_get (inherited_values table parents) k _ d here))))

-- the properties of the code from an index on
pub inherits_next : (ids : List PropId) (parents values next all : List Value) (i : ℕ) (d : PropId) → map property_of ids ≡ inherited_properties → i < length ids → next ≡ with_value_in parents (property_of (get_or ids i d)) values → with_values_in parents (drop i inherited_properties) values ≡ all → with_values_in parents (drop (i + 1) inherited_properties) next ≡ all
inherits_next ids parents values next all i d same lt is old =
    let property : ℕ = property_of (get_or ids i d) in
    let within : i < length inherited_properties = omega (arith, length-map ids property_of, ap length same) in
    let here : get_or inherited_properties i property ≡ property =
    ap (λ l. get_or l i property) (sym same) ∙ get_or-map property_of ids i d property lt in
    ap (with_values_in parents (drop (i + 1) inherited_properties)) is
    ∙ (ap (λ p. with_values_in parents (drop (i + 1) inherited_properties) (with_value_in parents p values)) (sym here)
    ∙ (ap (λ l. with_values_in parents l values) (sym (drop_more inherited_properties i property within)) ∙ old))

pub inherits_last : (ids : List PropId) (parents values all : List Value) (i : ℕ) → map property_of ids ≡ inherited_properties → length ids ≤ i → with_values_in parents (drop i inherited_properties) values ≡ all → values ≡ all
inherits_last ids parents values all i same past old =
    ap (λ l. with_values_in parents l values) (sym (drop_all i inherited_properties (omega (arith, length-map ids property_of, ap length same)))) ∙ old
