-- Numbers (css-syntax-3, sections 4.3.10, 4.3.12 and 4.3.13): how long one is, and its value.
use Rattle.std.specs.Prelude.{ℕ, ◌+◌, ◌*◌, ◌-◌, ◌^◌, ◌==◌, [], ◌∷◌, ◌++◌, length, take, drop, ℤ, pos, neg_ℤ}
use Rattle.std.specs.Prelude.{Bool, false, ◌&&◌, ◌||◌, if◌then◌else◌, Option, Some, None}
use Rattle.std.specs.List.{prefix_len}
use Rattle.base_model.specs.Ascii.{full_stop, hyphen, digit_zero}
use Rattle.base_model.specs.Text.{Characters}
use Rattle.base_model.specs.Thousandths.{clamped, rounded}
use Rattle.syntax_model.specs.Letters.{begins, is_digit, is_e, is_sign}
use Rattle.syntax_model.specs.Token.{Token, number, percentage, dimension}
use Rattle.syntax_model.specs.TextUnits.{one_if}

-- a point and a digit
abbrev pub starts_fraction : Characters → Bool
starts_fraction [] = false
starts_fraction (c ∷ cs) = (c == full_stop) && begins is_digit cs

abbrev pub starts_unsigned : Characters → Bool
starts_unsigned text = begins is_digit text || starts_fraction text

abbrev pub sign_len : Characters → ℕ
sign_len text = one_if is_sign text

-- a digit, a point and a digit, or a sign and one of these
abbrev pub starts_number : Characters → Bool
starts_number text = starts_unsigned (drop (sign_len text) text)

abbrev pub digits_len : Characters → ℕ
digits_len text = prefix_len is_digit text

-- a point and digits, where they are there
abbrev pub fraction_len : Characters → ℕ
fraction_len text = if starts_fraction text then 1 + digits_len (drop 1 text) else 0

-- `e`, maybe a sign, and digits, where they are there
abbrev pub exponent_len : Characters → ℕ
exponent_len text =
    let head = 1 + sign_len (drop 1 text) in
    if begins is_e text && begins is_digit (drop head text) then head + digits_len (drop head text) else 0

-- what is left after the sign, after the whole part, and after the fraction
abbrev pub after_sign : Characters → Characters
after_sign text = drop (sign_len text) text

abbrev pub after_whole : Characters → Characters
after_whole text = drop (digits_len (after_sign text)) (after_sign text)

abbrev pub after_fraction : Characters → Characters
after_fraction text = drop (fraction_len (after_whole text)) (after_whole text)

abbrev pub number_len : Characters → ℕ
number_len text =
    sign_len text + digits_len (after_sign text) + fraction_len (after_whole text) + exponent_len (after_fraction text)

abbrev pub is_integer : Characters → Bool
is_integer text = (fraction_len (after_whole text) == 0) && (exponent_len (after_fraction text) == 0)

-- digits after others that have this value
abbrev pub decimal_number : ℕ → Characters → ℕ
decimal_number value [] = value
decimal_number value (c ∷ cs) = decimal_number (10 * value + (c - digit_zero)) cs

-- the digits after the point, and those of the exponent
abbrev pub fraction_digits : Characters → Characters
fraction_digits text = drop 1 (take (fraction_len (after_whole text)) (after_whole text))

abbrev pub all_digits : Characters → Characters
all_digits text = take (digits_len (after_sign text)) (after_sign text) ++ fraction_digits text

abbrev pub exponent_text : Characters → Characters
exponent_text text = drop 1 (take (exponent_len (after_fraction text)) (after_fraction text))

abbrev pub is_minus : Characters → Bool
is_minus text = begins (λ c. c == hyphen) text

abbrev pub exponent_size : Characters → ℕ
exponent_size text = decimal_number 0 (after_sign (exponent_text text))

-- by how many places the exponent moves the digits to the left, and to the right
abbrev pub raised : Characters → ℕ
raised text = if is_minus (exponent_text text) then 0 else exponent_size text

abbrev pub lowered : Characters → ℕ
lowered text = if is_minus (exponent_text text) then exponent_size text else 0

-- The size of a number in thousandths: the exact fraction, rounded once.
abbrev pub size : Characters → ℤ
size text =
    rounded (pos (decimal_number 0 (all_digits text) * 1000 * 10 ^ raised text))
    (10 ^ (length (fraction_digits text) + lowered text))

-- the value of a number in thousandths
unfoldable pub thousandths : Characters → ℤ
thousandths text = clamped (if is_minus text then neg_ℤ (size text) else size text)

-- the value of a number, a percentage or a dimension, in thousandths
abbrev pub numeric_value : Token → Option ℤ
numeric_value token = elim token.kind [
  | number is_integer ↦ Some (thousandths token.spelling)
  | percentage ↦ Some (thousandths token.spelling)
  | dimension is_integer ↦ Some (thousandths token.spelling)
  | _ ↦ None
]
