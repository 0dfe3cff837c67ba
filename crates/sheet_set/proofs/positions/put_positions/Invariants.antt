use Rattle.std.proofs.Common.{◌≡◌, ◌++◌, ◌≤◌, drop, length, take, vec_capacity}
use Rattle.sheet_set.specs.Kept.{taking}
use Rattle.sheet_set.specs.Positions.{positions_from}
use Rattle.sheet_set.proofs.positions.put_positions.Given as goal

-- what is listed so far, and what the sheets that are left come to, is the whole
abbrev pub invariant-loop-sheet : goal.invariant-loop-sheet
invariant-loop-sheet l = record {
  placed : l.positions.items ++ positions_from l.position (drop l.sheet-index l.sheets) ≡ positions_from 0 l.sheets;
  counted : length l.positions.items ≡ length (taking (take l.sheet-index l.sheets));
  below : l.position ≤ l.sheet-index;
  capacity : vec_capacity l.initial.positions ≤ vec_capacity l.positions;
}
