use Rattle.std.proofs.Common.{take}
use Rattle.invalidation_map.proofs.KeySetLemmas.{AreSetsSoFar}
use Rattle.invalidation_map.proofs.key_sets.KeySets.of.Given as goal

abbrev pub invariant-loop-key : goal.invariant-loop-key
invariant-loop-key l = AreSetsSoFar l.all (take l.key-index l.keys) l.sets
