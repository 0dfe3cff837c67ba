use Rattle.std.proofs.Common.{◌≡◌, ◌∙◌, OnErr, OnOk, refl, ap, map, subst}
use Rattle.std.specs.Io.KnownBytes.{Appends}
use Rattle.dom_edits.specs.EditView.{edit_seen}
use Rattle.style_lines.specs.Loops.{GrewByFront}
use Rattle.style_cli.specs.Printing.{batches_seen}
use Rattle.style_cli.proofs.Printed.{batches-seen, same_text}
use Rattle.style_cli.proofs.printing.print_over.Goals as goal

pub returns-clause-ok : goal.returns-clause-ok
returns-clause-ok g c =
    let seen : batches_seen c.as_slice.result.now ≡ map (map edit_seen) c.args.batches = batches-seen c.as_slice.result.now ∙ ap (map (map edit_seen)) c.as_slice.ensures in
    subst (λ text. OnOk c.print_batches-written.result (Appends (g.K.Sink.held c.args.sink.now) (g.K.Sink.held c.print_batches-written.new.sink) text))
    (same_text {st = c.args.session} {now = c.args.session} refl seen) c.print_batches-written.ensures.ok

pub returns-clause-err : goal.returns-clause-err
returns-clause-err g c =
    let seen : batches_seen c.as_slice.result.now ≡ map (map edit_seen) c.args.batches = batches-seen c.as_slice.result.now ∙ ap (map (map edit_seen)) c.as_slice.ensures in
    subst (λ text. OnErr c.print_batches-written.result (GrewByFront (g.K.Sink.held c.args.sink.now) (g.K.Sink.held c.print_batches-written.new.sink) text))
    (same_text {st = c.args.session} {now = c.args.session} refl seen) c.print_batches-written.ensures.err
