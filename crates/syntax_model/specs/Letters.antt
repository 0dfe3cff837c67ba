-- The classes of characters (css-syntax-3, section 4.2).
use Rattle.std.specs.Prelude.{ℕ, ◌==◌, nat_le, [], ◌∷◌, Bool, false, ◌&&◌, ◌||◌}
use Rattle.base_model.specs.Ascii.{tab, line_feed, space, hyphen, low_line, first_beyond_ascii, delete}
use Rattle.base_model.specs.Ascii.{capital_a, capital_z, small_a, small_z, digit_zero, digit_nine}
use Rattle.base_model.specs.Text.{Characters}
use Rattle.syntax_model.specs.Signs.{quotation_mark, apostrophe, plus_sign, capital_e, small_e, capital_f, small_f}

-- the text begins with a character that passes
abbrev pub begins : (ℕ → Bool) → Characters → Bool
begins p [] = false
begins p (c ∷ cs) = p c

abbrev pub is_blank : ℕ → Bool
is_blank c = (c == line_feed) || ((c == tab) || (c == space))

abbrev pub is_letter : ℕ → Bool
is_letter c = (nat_le capital_a c && nat_le c capital_z) || (nat_le small_a c && nat_le c small_z)

abbrev pub is_digit : ℕ → Bool
is_digit c = nat_le digit_zero c && nat_le c digit_nine

abbrev pub is_hex_digit : ℕ → Bool
is_hex_digit c = is_digit c || ((nat_le capital_a c && nat_le c capital_f) || (nat_le small_a c && nat_le c small_f))

-- a letter, `_`, or any from U+0080
abbrev pub is_name_start : ℕ → Bool
is_name_start c = is_letter c || ((c == low_line) || nat_le first_beyond_ascii c)

-- one of these, a digit or `-`
abbrev pub is_name_char : ℕ → Bool
is_name_char c = is_name_start c || (is_digit c || (c == hyphen))

abbrev pub is_quote : ℕ → Bool
is_quote c = (c == quotation_mark) || (c == apostrophe)

abbrev pub is_sign : ℕ → Bool
is_sign c = (c == plus_sign) || (c == hyphen)

-- what the exponent of a number begins with
abbrev pub is_e : ℕ → Bool
is_e c = (c == small_e) || (c == capital_e)

-- U+0001 to U+0008, U+000B, U+000E to U+001F, or U+007F
abbrev pub is_non_printable : ℕ → Bool
is_non_printable c =
    (nat_le 1 c && nat_le c 8) || ((c == 11) || ((nat_le 14 c && nat_le c 31) || (c == delete)))
