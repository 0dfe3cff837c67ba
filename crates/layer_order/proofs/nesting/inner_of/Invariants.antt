use Rattle.std.proofs.Common.{map}
use Rattle.layer_order.specs.Known.{AreNested}
use Rattle.layer_order.proofs.nesting.inner_of.Given as goal

abbrev pub invariant-loop-place : goal.invariant-loop-place
invariant-loop-place l = AreNested l.layers.keys l.place (map (λ v. v.items) l.inner.items)
