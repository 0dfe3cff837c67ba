-- Colours in hexadecimal (css-color-4, section 5.2).
use Rattle.std.specs.Prelude.{ℕ, ◌+◌, ◌*◌, List, [], ◌∷◌, map, Option, Some, None, if◌then◌else◌}
use Rattle.std.specs.List.{list_all}
use Rattle.std.specs.Char.{is_ascii_hexdigit, digit_value}
use Rattle.base_model.specs.Text.{Characters}
use Rattle.value_model.specs.Color.{Color, rgba, opaque}

-- a digit alone is doubled
abbrev pub doubled : ℕ → ℕ
doubled digit = 17 * digit

abbrev pub pair : ℕ → ℕ → ℕ
pair high low = 16 * high + low

-- three, four, six or eight digits; alpha is 255 where there is none
abbrev pub color_of_digits : List ℕ → Option Color
color_of_digits (r ∷ g ∷ b ∷ []) = Some (opaque (doubled r) (doubled g) (doubled b))
color_of_digits (r ∷ g ∷ b ∷ a ∷ []) = Some (rgba (doubled r) (doubled g) (doubled b) (doubled a))
color_of_digits (r ∷ s ∷ g ∷ h ∷ b ∷ c ∷ []) = Some (opaque (pair r s) (pair g h) (pair b c))
color_of_digits (r ∷ s ∷ g ∷ h ∷ b ∷ c ∷ a ∷ d ∷ []) = Some (rgba (pair r s) (pair g h) (pair b c) (pair a d))
color_of_digits digits = None

-- what comes after the `#`
abbrev pub hex_color : Characters → Option Color
hex_color text = if list_all is_ascii_hexdigit text then color_of_digits (map digit_value text) else None
