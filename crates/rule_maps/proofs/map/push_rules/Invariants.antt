use Rattle.std.proofs.Common.{◌≡◌, ◌++◌, map, take}
use Rattle.rule_maps.specs.declared.pair.Pair.{Pair}
use Rattle.rule_maps.proofs.map.push_rules.Given as goal

abbrev pub invariant-loop-pair : goal.invariant-loop-pair
invariant-loop-pair l = l.found.items ≡ l.fn.found.items ++ map (λ (pair : Pair). pair.rule) (take l.pair-index l.pairs)
