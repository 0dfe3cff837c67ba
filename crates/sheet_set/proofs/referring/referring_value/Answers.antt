use Rattle.std.proofs.Common.{sym, ◌∙◌}
use Rattle.sheet_set.proofs.PlainLemmas.{refers_to_none}
use Rattle.sheet_set.proofs.referring.referring_value.Goals as goal

pub returns-then-not-has_var : goal.returns-then-not-has_var
returns-then-not-has_var c =
    sym (refers_to_none c.args.tokens.now (sym c.has_var.ensures ∙ c.if-not-has_var.true))
