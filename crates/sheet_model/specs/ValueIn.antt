-- The values that a property takes (the property's own section; css-values-4, sections 2 and 5 to 6; css-color-4,
-- sections 4 to 6), as functions on tokens.
use Rattle.std.specs.Prelude.{ℕ, ℤ, pos, negsuc, ◌*ℤ◌, ◌/◌, min, int_le, List, [], ◌∷◌, find, Bool, true, false, ◌&&◌, ◌||◌}
use Rattle.std.specs.Prelude.{if◌then◌else◌, Option, Some, None, option_map, slice_get, codes}
use Rattle.std.specs.Option.{option_or}
use Rattle.std.specs.Ordering.{int_eq}
use Rattle.base_model.specs.Options.{◌>>=◌}
use Rattle.base_model.specs.Lists.{first_some}
use Rattle.base_model.specs.Text.{Characters, is_word}
use Rattle.base_model.specs.Thousandths.{clamped, rounded}
use Rattle.syntax_model.specs.Token.{Token, TokenKind, dimension, percentage, number}
use Rattle.syntax_model.specs.TokenKinds.{is_ident, is_function, is_hash, is_comma, is_close_round, without_white}
use Rattle.syntax_model.specs.Numbers.{thousandths}
use Rattle.value_model.specs.Color.{Color, named_colors, opaque}
use Rattle.value_model.specs.HexColor.{hex_color}
use Rattle.value_model.specs.Value as value
use Rattle.value_model.specs.Value.{Value, color, pixels, percent, em, rem}
use Rattle.value_model.specs.Table.{ValueForm, named, any_color, length, number_within, table}
use Rattle.value_model.specs.Table as form

-- <ident-token>: the name, where the tokens are one identifier
abbrev pub ident_in : List Token → Option Characters
ident_in (token ∷ []) = if is_ident token.kind then Some token.name else None
ident_in tokens = None

-- <hash-token>: the name, where the tokens are one hash
abbrev pub hash_in : List Token → Option Characters
hash_in (token ∷ []) = if is_hash token.kind then Some token.name else None
hash_in tokens = None

-- a word, ignoring ASCII case, which is read as a value (css-values-4, section 2.1)
abbrev pub named_in : Characters → Value → List Token → Option Value
named_in text read tokens = do
  name ← ident_in tokens
  if is_word text name then Some read else None

-- <hex-color>
abbrev pub hex_color_in : List Token → Option Color
hex_color_in tokens = do
  digits ← hash_in tokens
  hex_color digits

-- <named-color>, or `transparent`
abbrev pub named_color_in : List Token → Option Color
named_color_in tokens = do
  name ← ident_in tokens
  option_map (λ row. row.color) (find (λ row. is_word row.name name) named_colors)

-- an integer in a colour, from 0 to 255
abbrev pub channel_of : ℤ → ℕ
channel_of (pos n) = min 255 (n / 1000)
channel_of (negsuc n) = 0

abbrev pub channel_by : TokenKind → Characters → Option ℕ
channel_by (number true) spelling = Some (channel_of (thousandths spelling))
channel_by kind spelling = None

-- an <integer> with whitespace around it, and what comes after
abbrev pub channel_from : List Token → Option (ℕ × List Token)
channel_from [] = None
channel_from (token ∷ tokens) = do
  channel ← channel_by token.kind token.spelling
  Some (channel, without_white tokens)

abbrev pub channel_at : List Token → Option (ℕ × List Token)
channel_at tokens = channel_from (without_white tokens)

-- what comes after a comma
abbrev pub after_comma : List Token → Option (List Token)
after_comma [] = None
after_comma (token ∷ tokens) = if is_comma token.kind then Some tokens else None

abbrev pub next_channel_at : List Token → Option (ℕ × List Token)
next_channel_at tokens = do
  rest ← after_comma tokens
  channel_at rest

-- the closing bracket, and nothing after it
abbrev pub is_closed : List Token → Bool
is_closed (token ∷ []) = is_close_round token.kind
is_closed tokens = false

-- `r, g, b)` (css-color-4, section 5.1, with commas)
abbrev pub channels_in : List Token → Option Color
channels_in tokens = do
  red ← channel_at tokens
  green ← next_channel_at red.1
  blue ← next_channel_at green.1
  if is_closed blue.1 then Some (opaque red.0 green.0 blue.0) else None

abbrev pub is_rgb : Token → Bool
is_rgb token = is_function token.kind && is_word (codes "rgb") token.name

-- <rgb()> with three integers
abbrev pub rgb_in : List Token → Option Color
rgb_in [] = None
rgb_in (token ∷ tokens) = if is_rgb token then channels_in tokens else None

-- <color> = <hex-color> | <named-color> | transparent | <rgb()> | currentcolor
abbrev pub color_in : List Token → Option Value
color_in tokens =
    option_or (named_in (codes "currentcolor") value.current_color tokens)
    (option_map color (option_or (hex_color_in tokens) (option_or (named_color_in tokens) (rgb_in tokens))))

-- n parts of d of a number of thousandths: the exact fraction, rounded once, within the range
abbrev pub scaled : ℤ → ℤ → ℕ → ℤ
scaled z n d = clamped (rounded (z *ℤ n) d)

-- what one of a unit is: so many parts of so many of a pixel, or the font size of the element or of the root
pub data Measure : Type 0 where
  of_pixel : ℤ → ℕ → Measure
  of_element : Measure
  of_root : Measure

pub record LengthUnit : Type 0 where
  pub name : Characters
  pub measure : Measure

abbrev pub unit : Characters → Measure → LengthUnit
unit name measure = record { name = name; measure = measure }

-- css-values-4, sections 6.1 and 6.2
unfoldable pub units : List LengthUnit
units =
    unit (codes "px") (of_pixel (pos 1) 1) ∷ unit (codes "in") (of_pixel (pos 96) 1)
    ∷ unit (codes "cm") (of_pixel (pos 4_800) 127) ∷ unit (codes "mm") (of_pixel (pos 480) 127)
    ∷ unit (codes "q") (of_pixel (pos 120) 127) ∷ unit (codes "pt") (of_pixel (pos 4) 3)
    ∷ unit (codes "pc") (of_pixel (pos 16) 1) ∷ unit (codes "em") of_element ∷ unit (codes "rem") of_root ∷ []

abbrev pub measured : Measure → ℤ → Value
measured (of_pixel n d) z = pixels (scaled z n d)
measured of_element z = em z
measured of_root z = rem z

-- so many thousandths of a unit, whose name ignores ASCII case
abbrev pub in_unit : Characters → ℤ → Option Value
in_unit name z = option_map (λ unit. measured unit.measure z) (find (λ unit. is_word unit.name name) units)

-- whether so many thousandths may be taken, where negative ones perhaps may not
abbrev pub is_allowed : Bool → ℤ → Bool
is_allowed negative z = negative || int_le (pos 0) z

-- <length>: a dimension, or where a property says so a number that is 0
abbrev pub length_by : Bool → Bool → TokenKind → Characters → ℤ → Option Value
length_by negative zero (dimension is_integer) unit z = if is_allowed negative z then in_unit unit z else None
length_by negative zero (number is_integer) unit z = if zero && int_eq z (pos 0) then Some (pixels z) else None
length_by negative zero kind unit z = None

abbrev pub length_in : Bool → Bool → List Token → Option Value
length_in negative zero (token ∷ []) = length_by negative zero token.kind token.name (thousandths token.spelling)
length_in negative zero tokens = None

-- <percentage>
abbrev pub percentage_by : Bool → TokenKind → ℤ → Option Value
percentage_by negative percentage z = if is_allowed negative z then Some (percent z) else None
percentage_by negative kind z = None

abbrev pub percentage_in : Bool → List Token → Option Value
percentage_in negative (token ∷ []) = percentage_by negative token.kind (thousandths token.spelling)
percentage_in negative tokens = None

-- <number [least, most]>
abbrev pub number_by : ℤ → ℤ → TokenKind → ℤ → Option Value
number_by least most (number is_integer) z = if int_le least z && int_le z most then Some (value.number z) else None
number_by least most kind z = None

abbrev pub number_in : ℤ → ℤ → List Token → Option Value
number_in least most (token ∷ []) = number_by least most token.kind (thousandths token.spelling)
number_in least most tokens = None

abbrev pub value_by : ValueForm → List Token → Option Value
value_by (named text read) tokens = named_in text read tokens
value_by any_color tokens = color_in tokens
value_by (length negative zero) tokens = length_in negative zero tokens
value_by (form.percentage negative) tokens = percentage_in negative tokens
value_by (number_within least most) tokens = number_in least most tokens

-- what the first form of the property's row that takes the tokens reads them as
unfoldable pub value_in : ℕ → List Token → Option Value
value_in property tokens = do
  row ← slice_get table property
  first_some (λ form. value_by form tokens) row.forms
