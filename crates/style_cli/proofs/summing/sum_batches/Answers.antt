use Rattle.std.proofs.Common.{◌≡◌, ◌+◌, ◌-◌, suc, sym, subst, ap, ◌∙◌, map, arith}
use Rattle.std.specs.List.{AllByRecursion}
use Rattle.edit_model.specs.Edit.{IsShapedEdit}
use Rattle.session_model.specs.Batches.{edited_all, report_of}
use Rattle.session_model.specs.Standing.{restyled}
use Rattle.session_model.specs.StandingInvariant.{IsReached}
use Rattle.session_model.proofs.BatchLemmas.{batch-reached}
use Rattle.job_json.specs.Draws.{drawn_list}
use Rattle.job_json.specs.Gen.{drawn_batch}
use Rattle.style_cli.specs.Printing.{edits_seen}
use Rattle.style_cli.specs.Sums.{batch_sums, both_sums}
use Rattle.style_cli.proofs.SumLemmas.{batches_end, batches_on, drawn_on}
use Rattle.style_cli.proofs.summing.sum_batches.Goals as goal

pub summing-preserved : goal.summing-preserved
summing-preserved g c =
    let st = c.summing.session in
    let n = c.summing.number in
    let left = c.summing.left in
    let nodes = c.args.draws.now.0 in
    let state = c.summing.draws.1 in
    let given = c.summing.edits.items in
    let done = c.in_ok-sum_batch.ensures in
    let drawn = c.in_ok-edits.ensures in
    let shaped = subst (λ es. AllByRecursion IsShapedEdit (edits_seen es)) c.deref.ensures.value done.shaped in
    let is = done.session ∙ ap (λ es. restyled (edited_all st (edits_seen es))) c.deref.ensures.value in
    let added = done.sums ∙ ap (λ es. both_sums c.summing.sums (batch_sums n (report_of st (edits_seen es)))) c.deref.ensures.value in
    let one_more : left ≡ suc (left - 1) = omega (arith, c.if-left-eq0.false) in
    let batch = drawn.batch ∙ ap (λ m. (drawn_batch m state).0) c.summing.invariant.nodes in
    let after = ap (λ d. d.1) drawn.state ∙ ap (λ m. (drawn_batch m state).1) c.summing.invariant.nodes in
    let split = drawn_on nodes left (left - 1) n state c.next.new.self.1 c.in_ok-edits.edits.items one_more batch after in
    record {
      reached = subst IsReached (sym is) (batch-reached st (edits_seen given) c.summing.invariant.reached shaped);
      serves = done.serves;
      numbered = omega (arith, c.summing.invariant.numbered, c.if-left-eq0.false);
      nodes = ap (λ d. d.0) drawn.state ∙ c.summing.invariant.nodes;
      summed = batches_on c.summing.sums c.sum_batch.new.sums (batch_sums n (report_of st (edits_seen given))) (n + 1) (restyled (edited_all st (edits_seen given))) c.sum_batch.new.session (edits_seen c.in_ok-edits.edits.items) _ _ _ added is split c.summing.invariant.summed;
    }

pub returns-then-left-eq0 : goal.returns-then-left-eq0
returns-then-left-eq0 g c =
    let st = c.summing.session in
    let n = c.summing.number in
    let given = c.summing.edits.items in
    let done = c.in_ok-sum_batch.ensures in
    let added = done.sums ∙ ap (λ es. both_sums c.summing.sums (batch_sums n (report_of st (edits_seen es)))) c.deref.ensures.value in
    let none : c.summing.left ≡ 0 = omega (arith, c.if-left-eq0.true) in
    batches_end c.summing.sums c.sum_batch.new.sums (batch_sums n (report_of st (edits_seen given))) (n + 1) (restyled (edited_all st (edits_seen given))) _ _ added
    (ap (λ m. map edits_seen (drawn_list (λ _. drawn_batch c.args.draws.now.0) m n c.summing.draws.1).0) none) c.summing.invariant.summed
