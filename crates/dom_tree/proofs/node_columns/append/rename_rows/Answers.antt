use Rattle.std.proofs.Common.{arith}
use Rattle.dom_tree.proofs.AppendedColumns.{KeepsRows-more, next_renamed, none_renamed, whole_renamed}
use Rattle.dom_tree.proofs.node_columns.append.rename_rows.Goals as goal

pub loop-index-init : goal.loop-index-init
loop-index-init c = record { so_far = none_renamed c.in_ok-rows.ensures.items; once = c.requires.once }

pub returns-in_err-row-clause-kept : goal.returns-in_err-row-clause-kept
returns-in_err-row-clause-kept c = KeepsRows-more c.loop-index.invariant.so_far.kept c.rename_row.ensures.kept

pub returns-in_err-push-clause-kept : goal.returns-in_err-push-clause-kept
returns-in_err-push-clause-kept c = KeepsRows-more c.loop-index.invariant.so_far.kept c.rename_row.ensures.kept

pub loop-index-preserved : goal.loop-index-preserved
loop-index-preserved c = record {
  so_far = next_renamed _ c.loop-index.invariant.so_far (omega arith) c.rename_row.ensures.kept c.in_ok-row.ensures.row c.above-above.ensures c.in_ok-row.ensures.node c.in_ok-push.ensures.items;
  once = c.rename_row.ensures.once;
}

pub returns-clause-nodes : goal.returns-clause-nodes
returns-clause-nodes c = whole_renamed c.loop-index.invariant.so_far (omega arith)
