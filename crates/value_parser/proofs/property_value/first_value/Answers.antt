use Rattle.std.proofs.Common.{option_map, ap, sym, ◌∙◌}
use Rattle.property_table.specs.View.{form_of, value_seen}
use Rattle.sheet_model.specs.ValueIn.{value_by}
use Rattle.std.proofs.lemmas.List.Folds.{list_all-map}
use Rattle.value_parser.specs.View.{is_lower}
use Rattle.value_parser.proofs.TableLemmas.{answer_here, answer_later, passes_at}
use Rattle.value_parser.proofs.property_value.first_value.Goals as goal

pub returns-in-Some : goal.returns-in-Some
returns-in-Some c =
    sym (c.loop-form.invariant
    ∙ answer_here form_of (λ form. value_by form c.args.tokens.now) c.args.forms.now c.loop-form.form-index _ _ _ c.loop-form-test.true c.value_by.ensures (ap (option_map value_seen) c.in-Some.is))

pub loop-form-preserved : goal.loop-form-preserved
loop-form-preserved c =
    c.loop-form.invariant
    ∙ answer_later form_of (λ form. value_by form c.args.tokens.now) c.args.forms.now c.loop-form.form-index _ _ c.loop-form-test.true c.value_by.ensures (ap (option_map value_seen) c.in_default.is)

pub value_by-requires : goal.value_by-requires
value_by-requires c =
    passes_at (λ form. is_lower (form_of form)) c.args.forms.now c.loop-form.form-index _ c.loop-form-test.true (sym (list_all-map is_lower form_of c.args.forms.now) ∙ c.requires)
