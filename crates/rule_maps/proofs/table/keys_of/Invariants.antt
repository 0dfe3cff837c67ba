use Rattle.std.proofs.Common.{◌≡◌, map, take}
use Rattle.rule_maps.specs.Heads.{key_under}
use Rattle.rule_maps.proofs.table.keys_of.Given as goal

abbrev pub invariant-loop-head : goal.invariant-loop-head
invariant-loop-head l = l.keys.items ≡ map key_under (take l.head-index l.heads)
