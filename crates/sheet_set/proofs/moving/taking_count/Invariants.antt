use Rattle.std.proofs.Common.{◌≡◌, length, take}
use Rattle.sheet_set.specs.Kept.{taking}
use Rattle.sheet_set.proofs.moving.taking_count.Given as goal

abbrev pub invariant-loop-sheet : goal.invariant-loop-sheet
invariant-loop-sheet l = l.count ≡ length (taking (take l.sheet-index l.sheets))
