use Rattle.std.proofs.Common.{◌≡◌, take}
use Rattle.std.specs.List.{flat_map}
use Rattle.cascade_core.specs.View.{lent_of, matched_of}
use Rattle.cascade_core.proofs.held.all_lent.Given as goal

abbrev pub invariant-loop-one : goal.invariant-loop-one
invariant-loop-one l = flat_map lent_of l.lent.items ≡ flat_map matched_of (take l.one-index l.list)
