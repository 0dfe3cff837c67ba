-- The names in touches.
use Rattle.std.specs.Prelude.{◌≡◌, ℕ, zero, suc, ◌+◌, ◌*◌, ◌/◌, ◌%◌, ◌^◌, ◌==◌, nat_le, nat_lt, List, [], ◌∷◌, length, fold, if◌then◌else◌, encode_utf8_all}
use Rattle.std.specs.Str.{chars}
use Rattle.base_model.specs.Text.{Characters}
use Rattle.stylo_base.specs.NameKey.{key_of}

-- the number of a text once a byte is read
abbrev pub with_digit : ℕ → ℕ → ℕ
with_digit number byte = (number * 256 + byte) % 2 ^ 64

-- so many bytes a text has at most that is kept as a number
abbrev pub short_length : ℕ
short_length = 7

-- a short text as a number: 1, and behind it its bytes as digits; of a longer text 0
abbrev pub short_of : List ℕ → ℕ
short_of bytes = if nat_le (length bytes) short_length then fold with_digit 1 bytes else 0

-- what is kept of a text that is not short
abbrev pub long_of : Characters → Characters
long_of text = if nat_le (length (encode_utf8_all text)) short_length then [] else text

-- so many digits of a number but for the first one, and behind them others
abbrev pub digits_of : ℕ → ℕ → List ℕ → List ℕ
digits_of zero number rest = rest
digits_of (suc more) number rest =
    if nat_lt number 256 then rest else digits_of more (number / 256) (number % 256 ∷ rest)

-- the text of which this is the number, or else this one
abbrev pub named_text : ℕ → Characters → Characters
named_text short long = if short == 0 then long else chars (digits_of short_length short [])

-- key, number and text are those of one text
pub record IsNamed (key short : ℕ) (long : Characters) : Type 0 where
  pub keyed : key ≡ key_of (encode_utf8_all (named_text short long))
  pub shortened : short ≡ short_of (encode_utf8_all (named_text short long))
  pub kept : long ≡ long_of (named_text short long)
