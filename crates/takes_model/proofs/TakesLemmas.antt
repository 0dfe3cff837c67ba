-- For `takes`: an element that takes nothing has one style over parents that have one inherited part.
use Rattle.std.proofs.Common.{◌≡◌, ℕ, ◌+◌, ℤ, ◌==◌, ◌&&◌, ◌||◌, not, Bool, true, false, if◌then◌else◌, List, [], ◌∷◌, slice_get, Option, Some, None, option_map, refl, sym, ap, ◌∙◌}
use Rattle.std.specs.Option.{option_map_or}
use Rattle.std.specs.FinMap as finmap
use Rattle.std.proofs.lemmas.Bool.{and_parts, or_parts, not-true}
use Rattle.custom_model.specs.Expand.{Lookup}
use Rattle.value_model.specs.Value.{Value, pixels}
use Rattle.value_model.specs.Table.{PropertyRow, ComputeRule, plain, of_color, of_font_size, of_font_weight, of_line_height, table}
use Rattle.value_model.specs.Table.{font_size_property, font_size_row, font_weight_property, font_weight_row}
use Rattle.value_model.specs.Style.{Style, adjusted, inherited_values, inherited_part, size_in, weight_in, initial_size, initial_weight, font_size_of, font_weight_of}
use Rattle.value_model.proofs.ByRow.{inherited-at, unsets as unset_row}
use Rattle.cascade_model.specs.Key.{Matched}
use Rattle.cascade_model.specs.Custom.{custom_values}
use Rattle.cascade_model.specs.Cascade.{Sizes, sizes, value_at, own_size, property_value, values_from, values_over, cascaded_over, cascaded}
use Rattle.cascade_model.specs.Ending.{Ending, inherits, initially, unsets, ends_at, ending}
use Rattle.takes_model.specs.Takes.{is_inherits, takes_from, takes}

-- a row whose rule asks for the parent's value is inherited
abbrev is_color : ComputeRule → Bool
is_color of_color = true
is_color plain = false
is_color of_font_size = false
is_color of_font_weight = false
is_color of_line_height = false

abbrev fits : List PropertyRow → Bool
fits [] = true
fits (row ∷ rows) = (row.inherited || not (is_color row.rule)) && fits rows

table_fits : fits table ≡ true
unfolding table
table_fits = refl

-- the value of a row that is not inherited asks nothing of the parent's, unless it is taken
by_rule : (row : PropertyRow) (rule : ComputeRule) (v w : Value) (size weight : ℤ) (s : Sizes) (given : Value)
    → row.rule ≡ rule → is_color rule ≡ false → value_at row v size weight s (ends_at given) ≡ value_at row w size weight s (ends_at given)
by_rule row plain v w size weight s given is other = rw is refl
by_rule row of_color v w size weight s given is other = absurd (cc)
by_rule row of_font_size v w size weight s given is other = rw is refl
by_rule row of_font_weight v w size weight s given is other = rw is refl
by_rule row of_line_height v w size weight s given is other = rw is refl

of_ending : (row : PropertyRow) (v w : Value) (size weight : ℤ) (s : Sizes) (e : Ending Value)
    → row.inherited ≡ false → is_color row.rule ≡ false → is_inherits e ≡ false → value_at row v size weight s e ≡ value_at row w size weight s e
of_ending row v w size weight s inherits own other free = absurd (cc)
of_ending row v w size weight s initially own other free = refl
of_ending row v w size weight s unsets own other free = rw own refl
of_ending row v w size weight s (ends_at given) own other free = by_rule row row.rule v w size weight s given refl other

both_of : {A : Type 0} (x y : A) (xs ys : List A) → (x ∷ xs) ≡ (y ∷ ys) → (x ≡ y) × (xs ≡ ys)
both_of x y xs ys h = (cc, cc)

some_none : {A : Type 0} (x : A) (xs : List A) → (x ∷ xs) ≡ [] → ⊥
some_none x xs h = cc

-- one row
row_same : (custom : Lookup) (ps qs : List Value) (s : Sizes) (ds : List Matched) (property : ℕ) (row : PropertyRow) (v w : Value) (test : Bool)
    → font_size_of ps ≡ font_size_of qs → font_weight_of ps ≡ font_weight_of qs → row.inherited ≡ test
    → (if test then v else row.initial) ≡ (if test then w else row.initial)
    → (test || not (is_color row.rule)) ≡ true → (not test && is_inherits (ending custom property ds)) ≡ false
    → property_value custom ps s ds property row v ≡ property_value custom qs s ds property row w
row_same custom ps qs s ds property row v w true size weight is same fit free =
    rw (size, weight) (ap (λ x. property_value custom qs s ds property row x) same)
row_same custom ps qs s ds property row v w false size weight is same fit free =
    let other : is_color row.rule ≡ false = not-true (is_color row.rule) fit in
    let value = of_ending row v w (font_size_of qs) (font_weight_of qs) s (ending custom property ds) is other free in
    rw (size, weight) (ap (λ (x : Value). if property == font_size_property then pixels s.element else x) value)

rows_same : (custom : Lookup) (ps qs : List Value) (s : Sizes) (ds : List Matched)
    → font_size_of ps ≡ font_size_of qs → font_weight_of ps ≡ font_weight_of qs
    → (property : ℕ) (rows : List PropertyRow) (vs ws : List Value) → fits rows ≡ true → takes_from custom ds property rows ≡ false
    → inherited_values rows vs ≡ inherited_values rows ws
    → values_from (property_value custom ps s ds) property rows vs ≡ values_from (property_value custom qs s ds) property rows ws
rows_same custom ps qs s ds size weight property [] vs ws fit free same = refl
rows_same custom ps qs s ds size weight property (row ∷ rows) [] [] fit free same = refl
rows_same custom ps qs s ds size weight property (row ∷ rows) [] (w ∷ ws) fit free same = absurd (some_none _ _ (sym same))
rows_same custom ps qs s ds size weight property (row ∷ rows) (v ∷ vs) [] fit free same = absurd (some_none _ _ same)
rows_same custom ps qs s ds size weight property (row ∷ rows) (v ∷ vs) (w ∷ ws) fit free same =
    let (here, there) = and_parts _ _ fit in
    let (own, rest) = or_parts _ _ free in
    let (first, later) = both_of _ _ _ _ same in
    let head = row_same custom ps qs s ds property row v w row.inherited size weight refl first here own in
    let tail = rows_same custom ps qs s ds size weight (property + 1) rows vs ws there rest later in
    ap (λ x. x ∷ values_from (property_value custom ps s ds) (property + 1) rows vs) head
    ∙ ap (λ l. property_value custom qs s ds property row w ∷ l) tail

-- the value of an inherited property is there in the inherited part
inherited_there : (row : PropertyRow) (k : ℕ) (vs ws : List Value)
    → slice_get table k ≡ Some row → row.inherited ≡ true → inherited_values table vs ≡ inherited_values table ws → slice_get vs k ≡ slice_get ws k
inherited_there row k vs ws at own same =
    sym (kept (slice_get vs k)) ∙ (sym (inherited-at table vs k row at) ∙ (ap (λ l. slice_get l k) same ∙ (inherited-at table ws k row at ∙ kept (slice_get ws k))))
  where
    kept : (o : Option Value) → option_map (unset_row k row) o ≡ o
    kept None = refl
    kept (Some v) = rw own refl

pub font_rows : (slice_get table font_size_property ≡ Some font_size_row) × (slice_get table font_weight_property ≡ Some font_weight_row)
unfolding table
font_rows = (refl, refl)

-- an element that takes nothing has one style over parents of one inherited part
pub cascaded-inherited : (is_root : Bool) (p q : Style) (size : ℤ) (ds : List Matched)
    → takes (finmap.get (custom_values p.custom ds)) ds ≡ false → inherited_part p ≡ inherited_part q → cascaded is_root p size ds ≡ cascaded is_root q size ds
unfolding takes
cascaded-inherited is_root p q size ds free same =
    let custom : p.custom ≡ q.custom = ap (λ (s : Style). s.custom) same in
    let values : inherited_values table p.values ≡ inherited_values table q.values = ap (λ (s : Style). s.values) same in
    let size_there = inherited_there font_size_row font_size_property p.values q.values font_rows.0 refl values in
    let weight_there = inherited_there font_weight_row font_weight_property p.values q.values font_rows.1 refl values in
    let sizes_same : font_size_of p.values ≡ font_size_of q.values = ap (λ o. option_map_or size_in o initial_size) size_there in
    let weights_same : font_weight_of p.values ≡ font_weight_of q.values = ap (λ o. option_map_or weight_in o initial_weight) weight_there in
    let get : Lookup = finmap.get (custom_values p.custom ds) in
    let own : own_size get p.values size ds ≡ own_size get q.values size ds = rw (sizes_same, weights_same) refl in
    let both : Sizes = sizes (own_size get q.values size ds) (if is_root then own_size get q.values size ds else size) in
    let rows = rows_same get p.values q.values both ds sizes_same weights_same 0 table p.values q.values table_fits free values in
    let over : values_over get is_root p.values size ds ≡ values_over get is_root q.values size ds =
    ap (λ o. values_from (property_value get p.values (sizes o (if is_root then o else size)) ds) 0 table p.values) own ∙ rows in
    ap (λ (l : List Value). record { values = adjusted is_root l; custom = custom_values p.custom ds }) over
    ∙ ap (λ c. cascaded_over (custom_values c ds) is_root q size ds) custom
