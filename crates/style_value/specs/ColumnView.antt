-- ValueColumns of words and numbers are those of values.
use Rattle.std.specs.Prelude.{◌≡◌, ℕ, ℤ, List, map, length, Option, Some, None, slice_get, slice_set}
use Rattle.std.specs.List.{AllByRecursion}
use Rattle.value_model.specs.Value as model
use Rattle.value_model.specs.Table.{table}
use Rattle.property_table.specs.ValueParts.{HasByteParts, value_amount, value_word}
use Rattle.property_table.specs.declared.value.Value.{Value}

-- columns are the words and the numbers of a value for each property
pub record AreColumns (words : List ℕ) (amounts : List ℤ) : Type 0 where
  pub values : List Value
  pub words_of : words ≡ map value_word values
  pub amounts_of : amounts ≡ map value_amount values
  pub bytes : AllByRecursion HasByteParts values
  pub long : length values ≡ length table

-- a property's value in one list becomes that of another list, if it has one there
abbrev pub replaced : Option model.Value → ℕ → List model.Value → List model.Value
replaced None property values = values
replaced (Some value) property values = slice_set values property value

abbrev pub with_value_in : List model.Value → ℕ → List model.Value → List model.Value
with_value_in parents property values = replaced (slice_get parents property) property values
