-- The style of an element, by the declarations that apply to it, over the style of its parent.
use Rattle.std.specs.Prelude.{ℕ, ◌+◌, ◌==◌, ℤ, pos, int_lt, List, [], ◌∷◌, Bool, if◌then◌else◌}
use Rattle.std.specs.Prelude.{codes}
use Rattle.value_model.specs.Value.{Value, keyword, pixels, percent, number, em, rem}
use Rattle.value_model.specs.Table.{PropertyRow, ComputeRule, plain, of_color, of_font_size, of_font_weight}
use Rattle.value_model.specs.Table.{of_line_height, table}
use Rattle.value_model.specs.Table.{font_size_property, font_size_row}
use Rattle.value_model.specs.Style.{Style, adjusted, is_keyword, size_in, font_size_of, font_weight_of}
use Rattle.sheet_model.specs.ValueIn.{scaled}
use Rattle.cascade_model.specs.Key.{Matched}
use Rattle.std.specs.FinMap as finmap
use Rattle.custom_model.specs.Value.{CustomValues}
use Rattle.custom_model.specs.Expand.{Lookup}
use Rattle.cascade_model.specs.Custom.{custom_values}
use Rattle.cascade_model.specs.Ending.{Ending, inherits, initially, unsets, ends_at, ending}

-- the font sizes that `em` and `rem` stand for
pub record Sizes : Type 0 where
  pub element : ℤ
  pub root : ℤ

abbrev pub sizes : ℤ → ℤ → Sizes
sizes element root = record { element = element; root = root }

-- a length in pixels (css-values-4, section 6.1); any other value stays
abbrev pub absolute : Sizes → Value → Value
absolute sizes (em z) = pixels (scaled z sizes.element 1_000)
absolute sizes (rem z) = pixels (scaled z sizes.root 1_000)
absolute sizes value = value

-- so much of a size
abbrev pub percent_of : ℤ → ℤ → Value
percent_of size z = pixels (scaled z size 100_000)

-- `font-size`, over the parent's (css-fonts-4, section 2.5)
abbrev pub computed_size : ℤ → Sizes → Value → Value
computed_size size sizes (percent z) = percent_of size z
computed_size size sizes (keyword word) =
    if is_keyword (codes "larger") (keyword word) then pixels (scaled size (pos 6) 5)
    else if is_keyword (codes "smaller") (keyword word) then pixels (scaled size (pos 5) 6)
    else keyword word
computed_size size sizes value = absolute sizes value

-- `bolder` and `lighter` than a weight (css-fonts-4, section 2.2.1)
abbrev pub bolder_than : ℤ → ℤ
bolder_than w =
    if int_lt w (pos 350_000) then pos 400_000
    else if int_lt w (pos 550_000) then pos 700_000
    else if int_lt w (pos 900_000) then pos 900_000
    else w

abbrev pub lighter_than : ℤ → ℤ
lighter_than w =
    if int_lt w (pos 100_000) then w
    else if int_lt w (pos 550_000) then pos 100_000
    else if int_lt w (pos 750_000) then pos 400_000
    else pos 700_000

abbrev pub computed_weight : ℤ → Value → Value
computed_weight weight value =
    if is_keyword (codes "bolder") value then number (bolder_than weight)
    else if is_keyword (codes "lighter") value then number (lighter_than weight)
    else value

-- `line-height`: a percentage is of the element's own size (CSS 2.2, section 10.8.1)
abbrev pub computed_height : Sizes → Value → Value
computed_height sizes (percent z) = percent_of sizes.element z
computed_height sizes value = absolute sizes value

-- in `color` the keyword `currentcolor` acts as `inherit` (css-color-4, section 9)
abbrev pub computed_color : Value → Value → Value
computed_color parents value = if is_keyword (codes "currentcolor") value then parents else value

-- What a value of a row is computed to, over the parent's value of that row, font size and font weight.
abbrev pub computed_by : ComputeRule → Value → ℤ → ℤ → Sizes → Value → Value
computed_by plain parents size weight sizes value = absolute sizes value
computed_by of_color parents size weight sizes value = computed_color parents value
computed_by of_font_size parents size weight sizes value = computed_size size sizes value
computed_by of_font_weight parents size weight sizes value = computed_weight weight value
computed_by of_line_height parents size weight sizes value = computed_height sizes value

abbrev pub computed : PropertyRow → Value → ℤ → ℤ → Sizes → Value → Value
computed row parents size weight sizes value = computed_by row.rule parents size weight sizes value

-- css-cascade-5, section 7.3
abbrev pub unset : PropertyRow → Value → Value
unset row parents = if row.inherited then parents else row.initial

-- the value of a row, over the parent's
abbrev pub value_at : PropertyRow → Value → ℤ → ℤ → Sizes → Ending Value → Value
value_at row parents size weight sizes inherits = parents
value_at row parents size weight sizes initially = row.initial
value_at row parents size weight sizes unsets = unset row parents
value_at row parents size weight sizes (ends_at value) = computed row parents size weight sizes value

-- The font size comes first: in it `em` and percentages are of the parent's.
abbrev pub own_size : Lookup → List Value → ℤ → List Matched → ℤ
own_size custom parents root_size ds =
    let size = font_size_of parents in
    size_in (value_at
    font_size_row
    (pixels size)
    size
    (font_weight_of parents)
    (sizes size root_size)
    (ending custom font_size_property ds))

-- the value of a property, where the font size is known
abbrev pub property_value : Lookup → List Value → Sizes → List Matched → ℕ → PropertyRow → Value → Value
property_value custom parents sizes ds property row value =
    if property == font_size_property then pixels sizes.element
    else value_at row value (font_size_of parents) (font_weight_of parents) sizes (ending custom property ds)

-- the values of the properties from this one on, each by its row and the parent's value
abbrev pub values_from : (ℕ → PropertyRow → Value → Value) → ℕ → List PropertyRow → List Value → List Value
values_from value_by property [] parents = []
values_from value_by property (row ∷ rows) [] = []
values_from value_by property (row ∷ rows) (value ∷ parents) =
    value_by property row value ∷ values_from value_by (property + 1) rows parents

-- the values before the adjustments; at the root `rem` is of the own size
abbrev pub values_over : Lookup → Bool → List Value → ℤ → List Matched → List Value
values_over custom is_root parents root_size ds =
    let own = own_size custom parents root_size ds in
    values_from (property_value custom parents (sizes own (if is_root then own else root_size)) ds) 0 table parents

-- the style over these values of the custom properties
abbrev pub cascaded_over : CustomValues → Bool → Style → ℤ → List Matched → Style
cascaded_over custom is_root parent root_size ds = record {
  values = adjusted is_root (values_over (finmap.get custom) is_root parent.values root_size ds);
  custom = custom;
}

-- At the root the parent is the style of all initial values, and the size that is handed in the initial one.
abbrev pub cascaded : Bool → Style → ℤ → List Matched → Style
cascaded is_root parent root_size ds = cascaded_over (custom_values parent.custom ds) is_root parent root_size ds
