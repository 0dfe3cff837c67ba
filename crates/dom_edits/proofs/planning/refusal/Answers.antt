use Rattle.std.proofs.Common.{◌∙◌}
use Rattle.dom_edits.proofs.planning.refusal.Goals as goal

pub returns-clause-every : goal.returns-clause-every
returns-clause-every c = λ said says. c.err.ensures.value ∙ c.plan.ensures.every said says
