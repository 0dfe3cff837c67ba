use Rattle.std.proofs.Common.{◌≡◌, map, take}
use Rattle.rule_maps.specs.declared.rows.Row.{Row}
use Rattle.rule_maps.proofs.table.pairs_of.Given as goal

abbrev pub invariant-loop-row : goal.invariant-loop-row
invariant-loop-row l = l.pairs.items ≡ map (λ (row : Row). row.pair) (take l.row-index l.rows)
