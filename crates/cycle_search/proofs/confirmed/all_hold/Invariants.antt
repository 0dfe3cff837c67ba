use Rattle.std.proofs.Common.{◌≡◌, ℕ, ◌<◌, slice_index_or, true}
use Rattle.cycle_search.specs.declared.mark.Mark.{Mark}
use Rattle.cycle_search.specs.Confirmed.{holds}
use Rattle.cycle_search.proofs.confirmed.all_hold.Given as goal

abbrev pub invariant-loop-place : goal.invariant-loop-place
invariant-loop-place l = (k : ℕ) (d : Mark) → k < l.place → holds l.edges l.marks l.order k (slice_index_or l.marks k d) ≡ true
