use Rattle.std.proofs.Common.{◌≡◌, flat_map, take}
use Rattle.selector_types.specs.View.{selectors_of}
use Rattle.invalidation_map.specs.Rows.{rows_of}
use Rattle.invalidation_map.specs.RowView.{rows_gathered}
use Rattle.invalidation_map.proofs.rows.InvalidationMap.of.Given as goal

abbrev pub invariant-loop-selectors : goal.invariant-loop-selectors
invariant-loop-selectors l = rows_gathered l.gathered ≡ rows_of (flat_map (λ list. selectors_of list.items) (take l.selectors-index l.rules))
