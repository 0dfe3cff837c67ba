-- The text that is printed of the values of a style.
use Rattle.std.specs.Prelude.{ℕ, ◌+◌, List, [], ◌∷◌, if◌then◌else◌, slice_index_or, codes}
use Rattle.base_model.specs.Text.{Characters}
use Rattle.custom_model.specs.Printed.{joined}
use Rattle.value_model.specs.Value.{Value, keyword, same_value}
use Rattle.value_model.specs.Table.{PropertyRow, color_row, table}
use Rattle.value_model.specs.Style.{Style}
use Rattle.value_model.specs.Printed.{declaration_text, declaration_texts}

-- the properties whose value is not the standing one, in the order of the table
abbrev pub values_text : List Value → Characters
values_text values = joined (codes "; ") (declaration_texts table values)

-- the properties of the table alone: the custom ones have a text of their own
abbrev pub longhands_text : Style → Characters
longhands_text style = values_text style.values

-- the same properties by their rows, of which the first has this index
abbrev pub printed_from : ℕ → List PropertyRow → List Value → List ℕ
printed_from property [] values = []
printed_from property (row ∷ rows) [] = []
printed_from property (row ∷ rows) (value ∷ values) =
    if same_value value row.standing then printed_from (property + 1) rows values
    else property ∷ printed_from (property + 1) rows values

abbrev pub printed_properties : List Value → List ℕ
printed_properties values = printed_from 0 table values

-- the declaration of a property
abbrev pub property_text : List Value → ℕ → Characters
property_text values property =
    declaration_text (slice_index_or table property color_row) (slice_index_or values property (keyword []))
