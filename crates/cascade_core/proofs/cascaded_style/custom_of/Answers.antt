use Rattle.std.proofs.Common.{sym, ◌∙◌}
use Rattle.cascade_core.proofs.DeclaredLemmas.{none_declared}
use Rattle.cascade_core.proofs.cascaded_style.custom_of.Goals as goal

pub returns-else-have_custom : goal.returns-else-have_custom
returns-else-have_custom c =
    sym (none_declared c.args.parent.now.custom c.args.winners.now (sym c.have_custom.ensures ∙ c.if-have_custom.false))
