use Rattle.std.proofs.Common.{ap, ◌∙◌}
use Rattle.std.specs.Str.{chars}
use Rattle.stylo_base.proofs.TextLemmas.{utf8_same}
use Rattle.stylo_base.proofs.text.Text.copy.Goals as goal

pub invariant_of-result : goal.invariant_of-result
invariant_of-result c = utf8_same _ _ c.self.invariant c.in_ok-copy.ensures

pub returns : goal.returns
returns c = ap chars c.in_ok-copy.ensures ∙ c.self.view_is
