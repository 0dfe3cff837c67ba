use Rattle.std.proofs.Common.{refl, rules}
use Rattle.base_model.proofs.Results.{on_err}
use Rattle.style_cli.specs.Printing.{refused_bytes}
use Rattle.style_lines.proofs.Fronts.{next_begun}
use Rattle.style_cli.proofs.heading.print_refused.Goals as goal

pub returns-in_err-print_one-clause-err : goal.returns-in_err-print_one-clause-err
returns-in_err-print_one-clause-err g c =
    on_err c.from_residual.result _ (next_begun refused_bytes c.args.refused.now c.loop-index.index _ _ (g.K.Sink.held c.loop-index.sink) _ _ (search rules) refl c.loop-index.invariant.written c.in_err-print_one.ensures.err)
