use Rattle.std.proofs.Common.{ap, ◌∙◌}
use Rattle.std.specs.Str.{chars}
use Rattle.stylo_base.proofs.TextLemmas.{chars-ascii, utf8_copied}
use Rattle.stylo_base.proofs.text.Text.of_str.Goals as goal

pub returns-clause-ascii : goal.returns-clause-ascii
returns-clause-ascii c h = ap chars c.in_ok-of_str.ensures ∙ chars-ascii c.args.text.now h

pub invariant_of-result : goal.invariant_of-result
invariant_of-result c = utf8_copied _ _ c.in_ok-of_str.ensures c.utf8.text
