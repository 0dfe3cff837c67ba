use Rattle.std.proofs.Common.{List, Option, option_and_then, ap, sym, ◌∙◌}
use Rattle.std.specs.List.{list_all}
use Rattle.base_model.specs.Lists.{first_some}
use Rattle.value_model.specs.Table.{PropertyRow}
use Rattle.value_model.specs.Value.{Value}
use Rattle.syntax_model.specs.Token.{Token}
use Rattle.sheet_model.specs.ValueIn.{value_by, value_in}
use Rattle.property_table.specs.View.{property_of, row_of}
use Rattle.value_parser.specs.View.{is_lower}
use Rattle.value_parser.proofs.WordLemmas.{row_lower}
use Rattle.value_parser.proofs.property_value.value.Goals as goal

abbrev value_of_row : List Token → PropertyRow → Option Value
value_of_row tokens row = first_some (λ form. value_by form tokens) row.forms

pub first_value-requires : goal.first_value-requires
first_value-requires c =
    ap (λ (row : PropertyRow). list_all is_lower row.forms) c.of.ensures.row
    ∙ row_lower (property_of c.args.id) (row_of c.args.id) c.of.ensures.found

pub returns : goal.returns
unfolding value_in
returns c =
    c.first_value.ensures
    ∙ (ap (value_of_row c.args.tokens.now) c.of.ensures.row
    ∙ ap (option_and_then (value_of_row c.args.tokens.now)) (sym c.of.ensures.found))
