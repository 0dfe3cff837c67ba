use Rattle.std.proofs.Common.{◌≡◌, false, take}
use Rattle.std.specs.List.{list_any}
use Rattle.invalidation_map.specs.KeySets.{is_in_set}
use Rattle.invalidation_map.proofs.key_sets.KeySets.bears.Given as goal

abbrev pub invariant-loop-index : goal.invariant-loop-index
invariant-loop-index l = list_any (is_in_set l.self) (take l.index l.names) ≡ false
