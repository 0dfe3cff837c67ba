use Rattle.std.proofs.Common.{◌+◌, sym, subst, arith, rules}
use Rattle.base_model.proofs.Results.{on_err}
use Rattle.session_model.specs.Batches.{edited_all, report_of, reports_from}
use Rattle.session_model.specs.Standing.{restyled}
use Rattle.session_model.specs.StandingInvariant.{IsReached}
use Rattle.session_model.proofs.BatchLemmas.{batch-reached}
use Rattle.style_cli.specs.Printing.{batches_seen, edits_seen}
use Rattle.style_cli.specs.Text.{batch_text, text_from}
use Rattle.style_cli.proofs.Printed.{next_batch}
use Rattle.style_lines.proofs.Written.{front_more, one_more}
use Rattle.style_cli.proofs.printing.print_batches.Goals as goal

pub returns-in_err-print_batch-clause-err : goal.returns-in_err-print_batch-clause-err
returns-in_err-print_batch-clause-err g c =
    let st = c.printing.session in
    let n = c.printing.number in
    let edits = edits_seen c.printing.edits.now in
    let rest = text_from (n + 1) (reports_from (restyled (edited_all st edits)) (batches_seen c.printing.rest.now)) in
    on_err c.from_residual.result _ (front_more _ (g.K.Sink.held c.printing.sink) _ (batch_text n (report_of st edits)) rest _ c.printing.invariant.written c.in_err-print_batch.ensures.err)

pub printing-preserved : goal.printing-preserved
printing-preserved g c =
    let st = c.printing.session in
    let now = c.print_batch.new.session in
    let n = c.printing.number in
    let edits = edits_seen c.printing.edits.now in
    let done = restyled (edited_all st edits) in
    let rest = text_from (n + 1) (reports_from done (batches_seen c.printing.rest.now)) in
    let is = c.in_ok-print_batch.ensures.session in
    let split = c.in-Some.ensures.cases in
    record {
      reached = subst IsReached (sym is) (batch-reached st edits c.printing.invariant.reached c.in_ok-print_batch.ensures.shaped);
      serves = c.in_ok-print_batch.ensures.serves;
      later = search rules;
      numbered = omega (arith, c.printing.invariant.numbered, split.1);
      written = next_batch _ _ (n + 1) done now c.as_slice-edits.result.now c.in-Some.next.now c.in-Some.others.now c.printing.rest.now _ is split.0 c.as_slice-edits.ensures.value (one_more _ (g.K.Sink.held c.printing.sink) _ (batch_text n (report_of st edits)) rest _ c.printing.invariant.written c.in_ok-print_batch.ensures.ok);
    }
