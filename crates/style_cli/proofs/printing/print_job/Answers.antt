use Rattle.std.proofs.Common.{OnErr, OnOk, refl, subst}
use Rattle.std.specs.Io.KnownBytes.{Appends}
use Rattle.session_model.specs.Batches.{reports}
use Rattle.style_lines.specs.Loops.{GrewByFront}
use Rattle.style_cli.proofs.Printed.{same_text}
use Rattle.style_cli.proofs.printing.print_job.Goals as goal

pub returns-clause-ok : goal.returns-clause-ok
unfolding reports
returns-clause-ok g c =
    subst (λ text. OnOk c.print_over.result (Appends (g.K.Sink.held c.args.sink.now) (g.K.Sink.held c.print_over.new.sink) text))
    (same_text c.in_ok-session.ensures.session refl) c.print_over.ensures.ok

pub returns-clause-err : goal.returns-clause-err
unfolding reports
returns-clause-err g c =
    subst (λ text. OnErr c.print_over.result (GrewByFront (g.K.Sink.held c.args.sink.now) (g.K.Sink.held c.print_over.new.sink) text))
    (same_text c.in_ok-session.ensures.session refl) c.print_over.ensures.err
