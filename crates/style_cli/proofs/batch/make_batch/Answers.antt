use Rattle.std.proofs.Common.{arith}
use Rattle.style_cli.proofs.EditedLemmas.{counted}
use Rattle.style_cli.proofs.batch.make_batch.Goals as goal

pub overflow_sub-result : goal.overflow_sub-result
overflow_sub-result g c =
    omega (arith, counted c.args.session.now c.args.edits.now c.in_ok-refused.refused.items c.in_ok-refused.ensures.refused, c.in_ok-refused.refused.ok.0)

pub returns-clause-accepted : goal.returns-clause-accepted
returns-clause-accepted g c =
    omega (arith, counted c.args.session.now c.args.edits.now c.in_ok-refused.refused.items c.in_ok-refused.ensures.refused, c.in_ok-refused.refused.ok.0)
