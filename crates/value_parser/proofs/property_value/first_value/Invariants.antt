use Rattle.std.proofs.Common.{◌≡◌}
use Rattle.property_table.specs.View.{form_of}
use Rattle.sheet_model.specs.ValueIn.{value_by}
use Rattle.value_parser.proofs.TableLemmas.{answer_from}
use Rattle.value_parser.proofs.property_value.first_value.Given as goal

abbrev pub invariant-loop-form : goal.invariant-loop-form
invariant-loop-form l =
    answer_from form_of (λ form. value_by form l.tokens) l.forms 0 ≡ answer_from form_of (λ form. value_by form l.tokens) l.forms l.form-index
