use Rattle.std.proofs.Common.{◌≡◌, sum_by, take}
use Rattle.shorthands.specs.View.{declared_count}
use Rattle.sheet_set.proofs.count.count_all.Given as goal

abbrev pub invariant-loop-entry : goal.invariant-loop-entry
invariant-loop-entry l = l.count ≡ sum_by declared_count (take l.entry-index l.entries)
