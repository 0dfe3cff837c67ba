use Rattle.std.proofs.Common.{length}
use Rattle.dom_tree.proofs.WalkLemmas.{IsWalk, still}
use Rattle.dom_tree.proofs.start.walk.Given as goal

abbrev pub invariant-loop-x : goal.invariant-loop-x
invariant-loop-x l = IsWalk l.fn.list l.order.items l.ahead.items

abbrev pub decreases-loop-x : goal.decreases-loop-x
decreases-loop-x l = length (still l.fn.list l.ahead.items)
