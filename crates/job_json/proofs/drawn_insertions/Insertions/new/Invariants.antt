use Rattle.job_json.proofs.InsertionLemmas.{AreUnmade}
use Rattle.job_json.proofs.drawn_insertions.Insertions.new.Given as goal

abbrev pub invariant-loop-place : goal.invariant-loop-place
invariant-loop-place l = AreUnmade l._place l.made.items
