use Rattle.std.proofs.Common.{◌-◌}
use Rattle.job_json.specs.Gen.{drawn_edit, drawn_batch}
use Rattle.job_json.proofs.DrawLaws.{IsDrawn}
use Rattle.job_json.proofs.drawn_edits.draw_batch.Given as goal

abbrev pub invariant-loop-place : goal.invariant-loop-place
invariant-loop-place l =
    IsDrawn (λ _. drawn_edit l.nodes) (4 - l._place) l._place l.batch.items l.rng (drawn_batch l.nodes l.fn.rng)
