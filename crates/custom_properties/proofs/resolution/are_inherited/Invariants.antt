use Rattle.std.proofs.Common.{◌≡◌, ℕ, ◌<◌, get_or, None}
use Rattle.std.specs.FinMap as finmap
use Rattle.custom_properties.proofs.GraphLemmas.{name_at}
use Rattle.custom_properties.proofs.resolution.are_inherited.Given as goal

abbrev pub invariant-loop-place : goal.invariant-loop-place
invariant-loop-place l =
    (k : ℕ) → k < l.place → finmap.get l.inherited (name_at l.declared k) ≡ get_or l.values k None
