use Rattle.std.proofs.Common.{◌≡◌, None, replicate}
use Rattle.custom_properties.proofs.ordered.no_values.Given as goal

abbrev pub invariant-loop-place : goal.invariant-loop-place
invariant-loop-place l = l.values.items ≡ replicate l._place None
