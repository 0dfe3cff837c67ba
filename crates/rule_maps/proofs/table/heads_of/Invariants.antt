use Rattle.std.proofs.Common.{◌-◌, length}
use Rattle.rule_maps.proofs.RowLemmas.{AreHeadsTo}
use Rattle.rule_maps.proofs.table.heads_of.Given as goal

abbrev pub invariant-loop-first : goal.invariant-loop-first
invariant-loop-first l = AreHeadsTo l.rows l.first l.heads.items

abbrev pub decreases-loop-first : goal.decreases-loop-first
decreases-loop-first l = length l.rows - l.first
