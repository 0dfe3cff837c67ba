use Rattle.base_model.proofs.Results.{on_err}
use Rattle.session_model.specs.Batches.{report_of}
use Rattle.report_text.specs.Elements.{elements_bytes}
use Rattle.style_lines.proofs.Written.{begun}
use Rattle.style_cli.specs.Printing.{edits_seen, heading_bytes}
use Rattle.style_cli.specs.Text.{batch_text}
use Rattle.style_cli.proofs.EditedLemmas.{are_refused}
use Rattle.style_cli.proofs.Printed.{batch_parts, front_of_last, whole_last}
use Rattle.style_cli.proofs.printing.print_batch.Goals as goal

pub print_heading-requires : goal.print_heading-requires
print_heading-requires g c =
    are_refused c.args.session.now c.args.batch.edits.now c.in_ok-heading.heading.refused.items c.in_ok-heading.ensures.heading.refused

pub returns-in_err-print_heading-clause-err : goal.returns-in_err-print_heading-clause-err
returns-in_err-print_heading-clause-err g c =
    let n = c.args.batch.number in
    let edits = edits_seen c.args.batch.edits.now in
    let made = c.in_ok-heading.ensures in
    let parts = batch_parts n c.args.session.now c.make_and_forget.new.session edits c.in_ok-heading.heading made.heading made.session in
    on_err c.from_residual-in_err-print_heading.result _
    (begun _ _ (heading_bytes n c.in_ok-heading.heading) (elements_bytes c.make_and_forget.new.session.scene) _ parts c.in_err-print_heading.ensures.err)

pub returns-clause-ok : goal.returns-clause-ok
returns-clause-ok g c =
    let n = c.args.batch.number in
    let edits = edits_seen c.args.batch.edits.now in
    let made = c.in_ok-heading.ensures in
    let parts = batch_parts n c.args.session.now c.make_and_forget.new.session edits c.in_ok-heading.heading made.heading made.session in
    whole_last c.print_elements.result _ (g.K.Sink.held c.print_heading.new.sink) _ (heading_bytes n c.in_ok-heading.heading) (elements_bytes c.make_and_forget.new.session.scene) (batch_text n (report_of c.args.session.now edits)) parts c.in_ok-print_heading.ensures.ok c.print_elements.ensures.ok

pub returns-clause-err : goal.returns-clause-err
returns-clause-err g c =
    let n = c.args.batch.number in
    let edits = edits_seen c.args.batch.edits.now in
    let made = c.in_ok-heading.ensures in
    let parts = batch_parts n c.args.session.now c.make_and_forget.new.session edits c.in_ok-heading.heading made.heading made.session in
    front_of_last c.print_elements.result _ (g.K.Sink.held c.print_heading.new.sink) _ (heading_bytes n c.in_ok-heading.heading) (elements_bytes c.make_and_forget.new.session.scene) (batch_text n (report_of c.args.session.now edits)) parts c.in_ok-print_heading.ensures.ok c.print_elements.ensures.err
