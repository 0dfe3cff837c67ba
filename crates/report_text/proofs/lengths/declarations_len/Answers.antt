use Rattle.std.proofs.Common.{ap, ◌∙◌}
use Rattle.custom_model.specs.Printed.{custom_declarations}
use Rattle.report_text.proofs.LengthLemmas.{declared_bytes}
use Rattle.report_text.proofs.lengths.declarations_len.Goals as goal

pub returns-clause-length : goal.returns-clause-length
returns-clause-length c =
    declared_bytes c.args.style.now c.text-own.result.now c.text-custom.result.now _ c.text-own.utf8 c.text-custom.utf8 c.text-own.ensures (c.text-custom.ensures ∙ ap custom_declarations c.custom.ensures) c.separator.ensures.text
