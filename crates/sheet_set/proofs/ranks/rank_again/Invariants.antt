use Rattle.std.proofs.Common.{◌≡◌, map, take, vec_capacity}
use Rattle.sheet_set.specs.Ranks.{rank_seen}
use Rattle.sheet_set.proofs.ranks.rank_again.Given as goal

abbrev pub invariant-loop-rule : goal.invariant-loop-rule
invariant-loop-rule l = record {
  items : l.ranks.items ≡ map (rank_seen l.layers) (take l.rule-index l.rules);
  capacity : vec_capacity l.ranks ≡ vec_capacity l.initial.ranks;
}
