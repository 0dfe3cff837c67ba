-- A value as a word and a number.
use Rattle.std.specs.Prelude.{ℕ, ◌+◌, ◌-◌, ◌*◌, ◌/◌, ◌%◌, ◌==◌, ◌<◌, ⊤, ℤ, pos, unsigned_abs, List, map, zip, slice_get, unwrap_or, codes}
use Rattle.std.specs.Prelude.{if◌then◌else◌}
use denote.Enum.Declared.{tag_of}
use Rattle.base_model.specs.Thousandths.{clamped}
use Rattle.value_model.specs.Color as color_model
use Rattle.value_model.specs.Color.{rgba}
use Rattle.value_model.specs.Value as model
use Rattle.property_table.specs.declared.keyword.TheConstants.{WORDS}
use Rattle.property_table.specs.contracts.keyword.Keyword.{the_type as keyword_type}
use Rattle.property_table.specs.declared.word.TheConstants.{COLOR, PIXELS, PERCENT, NUMBER, EM, REM, FIRST_KEYWORD}
use Rattle.property_table.specs.declared.constant.Constant.{Constant}
use Rattle.property_table.specs.declared.constant.Constant.TheVariants as constant
use Rattle.property_table.specs.declared.rows.TheConstants.{INITIAL_VALUES, STANDING_VALUES}
use Rattle.property_table.specs.declared.value.Value.{Value}
use Rattle.property_table.specs.declared.value.Value.TheVariants.{Keyword, Color, Pixels, Percent, Number, Em, Rem}
use Rattle.property_table.specs.View.{color_of}

abbrev pub color_bits : color_model.Color → ℕ
color_bits c = ((c.red * 256 + c.green) * 256 + c.blue) * 256 + c.alpha

abbrev pub color_with : ℤ → color_model.Color
color_with z =
    let bits = unsigned_abs z in rgba (bits / 16_777_216 % 256) (bits / 65_536 % 256) (bits / 256 % 256) (bits % 256)

-- the keyword of this word; the first, where it is of none
abbrev pub keyword_value : ℕ → model.Value
keyword_value word =
    model.keyword (unwrap_or (slice_get (map (λ text. text.now) WORDS.now) (word - FIRST_KEYWORD)) (codes "inline"))

-- which keyword a value is, or of which kind
abbrev pub value_word : Value → ℕ
value_word (Keyword keyword) = FIRST_KEYWORD + tag_of keyword_type keyword
value_word (Color c) = COLOR
value_word (Pixels z) = PIXELS
value_word (Percent z) = PERCENT
value_word (Number z) = NUMBER
value_word (Em z) = EM
value_word (Rem z) = REM

abbrev pub value_amount : Value → ℤ
value_amount (Keyword keyword) = pos 0
value_amount (Color c) = pos (color_bits (color_of c))
value_amount (Pixels z) = z
value_amount (Percent z) = z
value_amount (Number z) = z
value_amount (Em z) = z
value_amount (Rem z) = z

-- the parts of a colour are bytes
pub record AreBytes (c : color_model.Color) : Type 0 where
  pub red : c.red < 256
  pub green : c.green < 256
  pub blue : c.blue < 256
  pub alpha : c.alpha < 256

-- the colour, if the value is one, has such parts, as each value of the code has
abbrev pub HasByteParts : Value → Type 0
HasByteParts (Color c) = AreBytes (color_of c)
HasByteParts value = ⊤

-- the value of a word and a number
abbrev pub value_of_word : ℕ → ℤ → model.Value
value_of_word word z =
    if word == COLOR then model.color (color_with z)
    else if word == PIXELS then model.pixels z
    else if word == PERCENT then model.percent z
    else if word == NUMBER then model.number z
    else if word == EM then model.em z
    else if word == REM then model.rem z
    else keyword_value word

-- the values of columns
abbrev pub values_of_words : List ℕ → List ℤ → List model.Value
values_of_words words amounts = map (λ pair. value_of_word pair.0 pair.1) (zip words amounts)

-- a value that the table names
abbrev pub constant_value : Constant → Value
constant_value (constant.Keyword keyword) = Keyword keyword
constant_value (constant.Color c) = Color c
constant_value (constant.Pixels z) = Pixels (clamped z)
constant_value (constant.Number z) = Number (clamped z)

-- the initial and the standing value of each property
abbrev pub initial_values : List Value
initial_values = map constant_value INITIAL_VALUES

abbrev pub standing_values : List Value
standing_values = map constant_value STANDING_VALUES
