use Rattle.std.proofs.Common.{◌≡◌, ◌++◌, take}
use Rattle.std.specs.List.{filter_map}
use Rattle.selector_model.specs.Key.{key_of}
use Rattle.selector_types.specs.View.{selector_of}
use Rattle.dependency_map.specs.DepView.{deps_of}
use Rattle.invalidation_map.specs.Rows.{row_of}
use Rattle.invalidation_map.specs.RowView.{rows_gathered}
use Rattle.invalidation_map.proofs.gather.GatheredRows.push_rows.Given as goal

abbrev pub invariant-loop-dep : goal.invariant-loop-dep
invariant-loop-dep l =
    rows_gathered l.self ≡ rows_gathered l.initial.self ++ filter_map (row_of (key_of (selector_of l.selector))) (deps_of (take l.dep-index l.dep-items))
