use Rattle.std.proofs.Common.{◌≡◌, map, take}
use Rattle.sheet_set.specs.Ranks.{rank_seen}
use Rattle.sheet_set.proofs.ranks.ranks_of.Given as goal

abbrev pub invariant-loop-rule : goal.invariant-loop-rule
invariant-loop-rule l = l.ranks.items ≡ map (rank_seen l.layers) (take l.rule-index l.rules)
