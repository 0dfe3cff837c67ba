use Rattle.std.proofs.Common.{◌≡◌, filter, take}
use Rattle.invalidation_map.specs.KeySets.{bears_one}
use Rattle.invalidation_map.proofs.change_marks.bearers.Given as goal

abbrev pub invariant-loop-x : goal.invariant-loop-x
invariant-loop-x l = l.found.items ≡ filter (bears_one l.sets l.doc.elements) (take l.x-index l.order)
