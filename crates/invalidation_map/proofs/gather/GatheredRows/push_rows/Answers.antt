use Rattle.std.proofs.Common.{ap}
use Rattle.selector_model.specs.Key.{key_of}
use Rattle.selector_types.specs.View.{selector_of}
use Rattle.dependency_map.specs.DepView.{dep_of}
use Rattle.invalidation_map.specs.Rows.{row_of}
use Rattle.invalidation_map.specs.RowView.{rows_gathered}
use Rattle.invalidation_map.proofs.RowLemmas.{row_more}
use Rattle.invalidation_map.proofs.gather.GatheredRows.push_rows.Goals as goal

pub loop-dep-preserved : goal.loop-dep-preserved
loop-dep-preserved c =
    row_more (row_of (key_of (selector_of c.args.selector.now))) dep_of c.deref-dep-items.result.now c.loop-dep.dep-index c.dep-item.result (rows_gathered c.args.self.now)
    (rows_gathered c.loop-dep.self) _ _ c.loop-dep-test.true c.dep-item.is c.loop-dep.invariant (ap (λ key. row_of key (dep_of c.dep-item.result)) c.key_of.ensures) c.in_ok-push_row.ensures
