use Rattle.std.proofs.Common.{arith}
use Rattle.job_json.specs.Gen.{drawn_edit, drawn_batch}
use Rattle.job_json.proofs.DrawLaws.{drawn_push, drawn_whole}
use Rattle.job_json.proofs.drawn_edits.draw_batch.Goals as goal

pub loop-place-preserved : goal.loop-place-preserved
loop-place-preserved c =
    drawn_push (λ _. drawn_edit c.args.nodes) 4 c.loop-place._place c.loop-place.batch.items c.loop-place.rng (drawn_batch c.args.nodes c.args.rng.now) c.in_ok-draw_edit.field-0 c.push.new.self.items c.draw_edit.new.rng (omega arith) c.loop-place.invariant c.in_ok-push.ensures.items c.in_ok-draw_edit.ensures.edit c.in_ok-draw_edit.ensures.state

pub returns-clause-batch : goal.returns-clause-batch
returns-clause-batch c =
    (drawn_whole (λ _. drawn_edit c.args.nodes) 4 c.loop-place._place c.loop-place.batch.items c.loop-place.rng (drawn_batch c.args.nodes c.args.rng.now) (omega arith) c.loop-place.invariant).0

pub returns-clause-state : goal.returns-clause-state
returns-clause-state c =
    (drawn_whole (λ _. drawn_edit c.args.nodes) 4 c.loop-place._place c.loop-place.batch.items c.loop-place.rng (drawn_batch c.args.nodes c.args.rng.now) (omega arith) c.loop-place.invariant).1
