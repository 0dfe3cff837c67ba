use Rattle.std.proofs.Common.{sym, ap, ◌∙◌, codes}
use Rattle.custom_model.specs.Printed.{custom_declarations, joined}
use Rattle.custom_model.proofs.Maps.{texts-empty}
use Rattle.style_value.proofs.custom.Custom.none.Goals as goal

pub invariant_of-result : goal.invariant_of-result
invariant_of-result c = sym (ap custom_declarations c.empty.ensures ∙ ap (joined (codes "; ")) texts-empty)
