use Rattle.std.proofs.Common.{◌∙◌}
use Rattle.std.proofs.lemmas.Result.{IfOk-weaker}
use Rattle.style_cli.proofs.SumLemmas.{summed_job}
use Rattle.style_cli.proofs.summing.summed.Goals as goal

pub returns : goal.returns
returns g c =
    let begun = c.in_ok-nodes.field-0 in
    let wanted = c.args.wanted in
    let made = c.in_ok-nodes.ensures in
    IfOk-weaker c.sum_over.result _ _
    (λ sums is. is ∙ summed_job c.in_ok-session.session begun.nodes begun.sheets begun.batches wanted.seed wanted.nodes wanted.batches c.in_ok-session.ensures.session made.nodes made.sheets made.batches) c.sum_over.ensures
