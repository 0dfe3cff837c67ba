use Rattle.std.proofs.Common.{arith, map, ap, ◌∙◌}
use Rattle.std.proofs.lemmas.List.{map_push}
use Rattle.job_json.specs.Gen.{drawn_batch, drawn_batches}
use Rattle.job_json.proofs.DrawLaws.{drawn_push}
use Rattle.job_json.proofs.drawn_edits.draw_batches.Goals as goal

pub loop-place-preserved : goal.loop-place-preserved
loop-place-preserved c =
    drawn_push (λ _. drawn_batch c.args.nodes) c.args.batches c.loop-place._place (map (λ batch. batch.items) c.loop-place.list.items) c.loop-place.rng (drawn_batches c.args.nodes c.args.batches c.args.rng.now) c.in_ok-draw_batch.field-0.items (map (λ batch. batch.items) c.push.new.self.items) c.draw_batch.new.rng (omega arith) c.loop-place.invariant (ap (map (λ batch. batch.items)) c.in_ok-push.ensures.items ∙ map_push (λ batch. batch.items) c.loop-place.list.items c.in_ok-draw_batch.field-0) c.in_ok-draw_batch.ensures.batch c.in_ok-draw_batch.ensures.state
