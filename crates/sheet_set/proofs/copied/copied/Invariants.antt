use Rattle.std.proofs.Common.{◌≡◌, take}
use Rattle.sheet_set.proofs.copied.copied.Given as goal

abbrev pub invariant-loop-sheet : goal.invariant-loop-sheet
invariant-loop-sheet l = l.list.items ≡ take l.sheet-index l.sheets
