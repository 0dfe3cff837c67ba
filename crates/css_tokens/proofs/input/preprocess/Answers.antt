use Rattle.std.proofs.Common.{ap, sym, ◌∙◌}
use Rattle.std.specs.Str.{chars}
use Rattle.css_tokens.proofs.InputLemmas.{ready_same}
use Rattle.css_tokens.proofs.input.preprocess.Goals as goal

pub returns-then-is_ready-clause-text : goal.returns-then-is_ready-clause-text
returns-then-is_ready-clause-text c =
    ap chars c.in_ok-from_str.ensures.ok ∙ sym (ready_same (chars c.args.text.now) (sym c.is_ready.ensures ∙ c.if-is_ready.true))
