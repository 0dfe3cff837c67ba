use Rattle.std.proofs.Common.{◌-◌, map}
use Rattle.job_json.specs.Gen.{drawn_batch, drawn_batches}
use Rattle.job_json.proofs.DrawLaws.{IsDrawn}
use Rattle.job_json.proofs.drawn_edits.draw_batches.Given as goal

abbrev pub invariant-loop-place : goal.invariant-loop-place
invariant-loop-place l =
    IsDrawn (λ _. drawn_batch l.nodes) (l.batches - l._place) l._place (map (λ batch. batch.items) l.list.items) l.rng (drawn_batches l.nodes l.batches l.fn.rng)
