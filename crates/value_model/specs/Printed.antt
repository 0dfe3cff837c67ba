-- How the declarations of a style are printed.
use Rattle.std.specs.Prelude.{List, [], ◌∷◌, ◌++◌, if◌then◌else◌, codes}
use Rattle.base_model.specs.Text.{Characters}
use Rattle.custom_model.specs.Printed.{joined, custom_texts}
use Rattle.value_model.specs.Value.{Value, printed_value, same_value}
use Rattle.value_model.specs.Table.{PropertyRow, table}
use Rattle.value_model.specs.Style.{Style}

-- `name: value`
abbrev pub declaration_text : PropertyRow → Value → Characters
declaration_text row value = row.name ++ (codes ": " ++ printed_value value)

-- the properties whose value is not the standing one, in the order of the table
abbrev pub declaration_texts : List PropertyRow → List Value → List Characters
declaration_texts [] values = []
declaration_texts (row ∷ rows) [] = []
declaration_texts (row ∷ rows) (value ∷ values) =
    if same_value value row.standing then declaration_texts rows values
    else declaration_text row value ∷ declaration_texts rows values

-- the declarations of a style as they are printed: behind the properties of the table are the custom ones
abbrev pub printed_declarations : Style → Characters
printed_declarations style =
    joined (codes "; ") (declaration_texts table style.values ++ custom_texts style.custom)
