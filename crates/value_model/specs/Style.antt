-- A style has a value for each property of the table, and the custom properties that have one.
use Rattle.std.specs.Prelude.{ℕ, List, [], ◌∷◌, map, Bool, false, ◌||◌, not, if◌then◌else◌, Option, Some, None}
use Rattle.std.specs.Prelude.{ℤ, pos, slice_get, slice_set, codes, refl}
use Rattle.std.specs.Option.{option_map_or}
use Rattle.std.specs.FinMap as finmap
use Rattle.std.specs.Coded.{Coded, code_by, coded×, coded_list}
use Rattle.base_model.specs.Text.{Characters}
use Rattle.custom_model.specs.Value.{CustomValues, values_code}
use Rattle.value_model.specs.Value.{Value, keyword, pixels, number, same_value, value_code}
use Rattle.value_model.specs.Table.{PropertyRow, table, display_property, position_property, float_property}
use Rattle.value_model.specs.Table.{border_sides}
use Rattle.value_model.specs.Table.{font_size_property, font_weight_property}

pub record Style : Type 0 where
  -- in the order of the table
  pub values : List Value
  pub custom : CustomValues

abbrev pub style_code : Coded Style
style_code =
    code_by (List Value × CustomValues) (coded× (coded_list value_code) values_code)
    (λ s. (s.values, s.custom))
    (λ p. record { values = p.0; custom = p.1 })
    (λ _. refl)

abbrev pub initial_style : Style
initial_style = record { values = map (λ row. row.initial) table; custom = finmap.empty }

-- each inherited property keeps its value, each other one has its initial value (css-cascade-5, section 7); custom
-- properties are inherited (css-variables-1, section 2)
abbrev pub inherited_values : List PropertyRow → List Value → List Value
inherited_values [] values = []
inherited_values (row ∷ rows) [] = []
inherited_values (row ∷ rows) (value ∷ values) =
    (if row.inherited then value else row.initial) ∷ inherited_values rows values

abbrev pub inherited_part : Style → Style
inherited_part style = record style { values = inherited_values table style.values }

-- the font size in thousandths of a pixel, at first 16 pixels, and the font weight in thousandths, at first 400

abbrev pub initial_size : ℤ
initial_size = pos 16_000

abbrev pub initial_weight : ℤ
initial_weight = pos 400_000

abbrev pub size_in : Value → ℤ
size_in (pixels z) = z
size_in value = initial_size

abbrev pub weight_in : Value → ℤ
weight_in (number z) = z
weight_in value = initial_weight

abbrev pub font_size_of : List Value → ℤ
font_size_of values = option_map_or size_in (slice_get values font_size_property) initial_size

abbrev pub font_weight_of : List Value → ℤ
font_weight_of values = option_map_or weight_in (slice_get values font_weight_property) initial_weight

-- The adjustments that come last, on the values in the order of the table.

-- a property's value is changed, if there is one
abbrev pub changed : (Value → Value) → Option Value → ℕ → List Value → List Value
changed change None property values = values
changed change (Some value) property values = slice_set values property (change value)

abbrev pub with_changed : (Value → Value) → ℕ → List Value → List Value
with_changed change property values = changed change (slice_get values property) property values

-- whether a value is this keyword
abbrev pub is_keyword : Characters → Value → Bool
is_keyword word value = same_value value (keyword word)

-- whether the value of a property passes
abbrev pub passes_at : (Value → Bool) → ℕ → List Value → Bool
passes_at passes property values = option_map_or passes (slice_get values property) false

-- absolutely positioned (css-position-3, section 2)
abbrev pub is_absolute : Value → Bool
is_absolute value = is_keyword (codes "absolute") value || is_keyword (codes "fixed") value

abbrev pub is_positioned : List Value → Bool
is_positioned values = passes_at is_absolute position_property values

-- such a box does not float (CSS 2.2, section 9.7)
abbrev pub with_float : List Value → List Value
with_float values =
    if is_positioned values then with_changed (λ value. keyword (codes "none")) float_property values else values

abbrev pub floats : List Value → Bool
floats values = passes_at (λ value. not (is_keyword (codes "none") value)) float_property values

-- the outer display type becomes `block` (css-display-3, section 2.7); `inline-block` is flow-root within, and becomes
-- `block` as in CSS 2
abbrev pub blockified : Value → Value
blockified value =
    if is_keyword (codes "inline") value then keyword (codes "block")
    else if is_keyword (codes "inline-block") value then keyword (codes "block")
    else if is_keyword (codes "inline-flex") value then keyword (codes "flex")
    else value

-- so it is where an element is absolutely positioned, floats, or is the root (css-display-3, sections 2.7 and 2.8)
abbrev pub with_display : Bool → List Value → List Value
with_display is_root values =
    if is_root || (is_positioned values || floats values) then with_changed blockified display_property values
    else values

-- there is no border where its style is `none` or `hidden` (css-backgrounds-3, section 3.3)
abbrev pub is_no_border : Value → Bool
is_no_border value = is_keyword (codes "none") value || is_keyword (codes "hidden") value

abbrev pub with_border : ℕ × ℕ → List Value → List Value
with_border side values =
    if passes_at is_no_border side.1 values then with_changed (λ value. pixels (pos 0)) side.0 values else values

abbrev pub with_borders : List (ℕ × ℕ) → List Value → List Value
with_borders [] values = values
with_borders (side ∷ sides) values = with_borders sides (with_border side values)

abbrev pub adjusted : Bool → List Value → List Value
adjusted is_root values = with_borders border_sides (with_display is_root (with_float values))
