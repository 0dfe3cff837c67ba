use Rattle.std.proofs.Common.{length}
use Rattle.map_tests.proofs.by_chance.found_holding.Given as goal

abbrev pub decreases-loop-pairs : goal.decreases-loop-pairs
decreases-loop-pairs l = length l.buckets
