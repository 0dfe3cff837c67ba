-- What names, strings, urls and comments are made of: units of one or more characters, each of which says a character
-- or none (css-syntax-3, sections 4.3.2, 4.3.5 to 4.3.7, 4.3.11 and 4.3.14).
use Rattle.std.specs.Prelude.{ℕ, zero, suc, ◌+◌, ◌*◌, ◌-◌, ◌==◌, nat_le, [], ◌∷◌, ◌++◌, length, take, drop}
use Rattle.std.specs.Prelude.{Bool, false, not, ◌&&◌, ◌||◌, if◌then◌else◌, Option, Some, None, option_to_list}
use Rattle.std.specs.List.{prefix_len}
use Rattle.base_model.specs.Ascii.{line_feed, replacement_character, asterisk, small_a, capital_a, digit_zero}
use Rattle.base_model.specs.Ascii.{left_parenthesis, right_parenthesis}
use Rattle.base_model.specs.Text.{Characters}
use Rattle.syntax_model.specs.Signs.{reverse_solidus, solidus}
use Rattle.syntax_model.specs.Letters.{begins, is_blank, is_digit, is_hex_digit, is_name_char, is_quote, is_non_printable}

-- how many characters are taken, and what they say
pub record TextUnit : Type 0 where
  pub taken : ℕ
  pub said : Option ℕ

-- no unit: what is made of units ends here
abbrev pub no_unit : TextUnit
no_unit = record { taken = 0; said = None }

-- a character that says itself
abbrev pub itself : ℕ → TextUnit
itself c = record { taken = 1; said = Some c }

-- characters that say nothing
abbrev pub silent : ℕ → TextUnit
silent taken = record { taken = taken; said = None }

-- A valid escape starts here: `\` and anything but a line feed (section 4.3.8).
abbrev pub starts_escape : Characters → Bool
starts_escape [] = false
starts_escape (c ∷ cs) = (c == reverse_solidus) && not (begins (λ d. d == line_feed) cs)

-- the value of a hexadecimal digit
abbrev pub hex_value : ℕ → ℕ
hex_value c =
    if is_digit c then c - digit_zero
    else if nat_le small_a c then 10 + (c - small_a)
    else 10 + (c - capital_a)

-- hexadecimal digits after others that have this value
abbrev pub hex_number : ℕ → Characters → ℕ
hex_number value [] = value
hex_number value (c ∷ cs) = hex_number (16 * value + hex_value c) cs

-- six hexadecimal digits at most
abbrev pub hex_len : Characters → ℕ
hex_len text = prefix_len is_hex_digit (take 6 text)

-- 0, a surrogate or a number past U+10FFFF is no character
abbrev pub character_of : ℕ → ℕ
character_of n =
    if (n == 0) || ((nat_le 0xd800 n && nat_le n 0xdfff) || nat_le 0x110000 n) then replacement_character else n

-- one character, where the text begins with one that passes
abbrev pub one_if : (ℕ → Bool) → Characters → ℕ
one_if p text = if begins p text then 1 else 0

-- An escape, by what follows its `\`: up to six hexadecimal digits and one whitespace, or any one character
-- (section 4.3.7).
abbrev pub escape : Characters → TextUnit
escape [] = record { taken = 1; said = Some replacement_character }
escape (c ∷ cs) =
    let digits = hex_len (c ∷ cs) in
    if digits == 0 then record { taken = 2; said = Some c }
    else record {
      taken = 1 + digits + one_if is_blank (drop digits (c ∷ cs));
      said = Some (character_of (hex_number 0 (take digits (c ∷ cs))));
    }

-- a unit of a name (section 4.3.11)
abbrev pub name_unit : Characters → TextUnit
name_unit [] = no_unit
name_unit (c ∷ cs) =
    if is_name_char c then itself c
    else if starts_escape (c ∷ cs) then escape cs
    else no_unit

-- after a `\` in a string a line feed or the end of input is dropped with it
abbrev pub string_escape : Characters → TextUnit
string_escape [] = silent 1
string_escape (c ∷ cs) = if c == line_feed then silent 2 else escape (c ∷ cs)

-- a unit of a string in these quotes (section 4.3.5)
abbrev pub string_unit : ℕ → Characters → TextUnit
string_unit quote [] = no_unit
string_unit quote (c ∷ cs) =
    if (c == quote) || (c == line_feed) then no_unit
    else if c == reverse_solidus then string_escape cs
    else itself c

-- no character of a url stands for itself here
abbrev pub ends_url : ℕ → Bool
ends_url c =
    (c == right_parenthesis)
    || (is_blank c || (is_quote c || ((c == left_parenthesis) || (is_non_printable c || (c == reverse_solidus)))))

-- a unit of a url (section 4.3.6)
abbrev pub url_unit : Characters → TextUnit
url_unit [] = no_unit
url_unit (c ∷ cs) =
    if starts_escape (c ∷ cs) then escape cs
    else if ends_url c then no_unit
    else itself c

-- a unit of what is left of a bad url (section 4.3.14)
abbrev pub remnant_unit : Characters → TextUnit
remnant_unit [] = no_unit
remnant_unit (c ∷ cs) =
    if starts_escape (c ∷ cs) then escape cs
    else if c == right_parenthesis then no_unit
    else itself c

-- a unit of a comment (section 4.3.2)
abbrev pub comment_unit : Characters → TextUnit
comment_unit [] = no_unit
comment_unit (c ∷ cs) = if (c == asterisk) && begins (λ d. d == solidus) cs then no_unit else itself c

-- Units one after another: how many characters they have, and what they say.
pub record Run : Type 0 where
  pub taken : ℕ
  pub said : Characters

abbrev pub no_run : Run
no_run = record { taken = 0; said = [] }

abbrev pub then_run : TextUnit → Run → Run
then_run first rest = record { taken = first.taken + rest.taken; said = option_to_list first.said ++ rest.said }

-- so many units at most, as long as there are any
abbrev pub run : (Characters → TextUnit) → ℕ → Characters → Run
run unit zero text = no_run
run unit (suc most) text =
    let first = unit text in
    if first.taken == 0 then no_run else then_run first (run unit most (drop first.taken text))

-- All units that a text begins with: each has a character at least.
abbrev pub run_of : (Characters → TextUnit) → Characters → Run
run_of unit text = run unit (length text) text

abbrev pub len_of : (Characters → TextUnit) → Characters → ℕ
len_of unit text = (run_of unit text).taken

abbrev pub said_of : (Characters → TextUnit) → Characters → Characters
said_of unit text = (run_of unit text).said
