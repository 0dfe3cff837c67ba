-- What rows of the code's tables of names and units stand for, and what is asked of a list of tokens.
use Rattle.std.specs.Prelude.{List, [], ◌∷◌, pos, int_lt, unsigned_abs, Bool, true, Option, Some, None}
use Rattle.std.specs.Str.{chars}
use Rattle.base_model.specs.Text.{ascii_lower, same_text}
use Rattle.syntax_model.specs.Token.{Token}
use Rattle.value_model.specs.Color.{NamedColor}
use Rattle.value_model.specs.Table.{ValueForm, named}
use Rattle.sheet_model.specs.ValueIn as model
use Rattle.property_table.specs.View.{color_of}
use Rattle.value_parser.specs.declared.named.Named.{Named}
use Rattle.value_parser.specs.declared.length_unit.LengthUnit.{LengthUnit}
use Rattle.value_parser.specs.declared.length_unit.Measure.{Measure}
use Rattle.value_parser.specs.declared.length_unit.Measure.TheVariants.{Pixel, Element, Root}

abbrev pub named_seen : Named → NamedColor
named_seen row = record { name = chars row.name.now; color = color_of row.color }

abbrev pub measure_seen : Measure → model.Measure
measure_seen (Pixel parts of) = model.of_pixel parts (unsigned_abs of)
measure_seen Element = model.of_element
measure_seen Root = model.of_root

abbrev pub unit_seen : LengthUnit → model.LengthUnit
unit_seen row = record { name = chars row.name.now; measure = measure_seen row.measure }

-- whether the parts of a pixel, where there are any, are of more than none
abbrev pub has_divisor : Measure → Bool
has_divisor (Pixel parts of) = int_lt (pos 0) of
has_divisor measure = true

-- whether the word of a form, where it has one, is in lower case
abbrev pub is_lower : ValueForm → Bool
is_lower (named text read) = same_text (ascii_lower text) text
is_lower form = true

-- the token, where it is alone
abbrev pub only : List Token → Option Token
only (token ∷ []) = Some token
only tokens = None
