use Rattle.std.proofs.Common.{◌≡◌, ◌++◌, take}
use Rattle.selector_types.specs.View.{selectors_of}
use Rattle.invalidation_map.specs.Rows.{rows_of}
use Rattle.invalidation_map.specs.RowView.{rows_gathered}
use Rattle.invalidation_map.proofs.gather.GatheredRows.push_all.Given as goal

abbrev pub invariant-loop-selector : goal.invariant-loop-selector
invariant-loop-selector l = rows_gathered l.self ≡ rows_gathered l.initial.self ++ rows_of (selectors_of (take l.selector-index l.selectors))
