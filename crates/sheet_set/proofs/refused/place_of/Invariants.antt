use Rattle.std.proofs.Common.{◌≡◌, false, map, take}
use Rattle.std.specs.List.{list_any}
use Rattle.edit_model.specs.SheetApply.{is_of}
use Rattle.sheet_set.specs.Kept.{kept_seen}
use Rattle.sheet_set.proofs.refused.place_of.Given as goal

abbrev pub invariant-loop-place : goal.invariant-loop-place
invariant-loop-place l = list_any (is_of l.number) (map kept_seen (take l.place l.sheets)) ≡ false
