use Rattle.stylo_base.specs.NameList.{StandOnce}
use Rattle.dom_tree.proofs.AppendedColumns.{AreRenamed}
use Rattle.dom_tree.proofs.node_columns.append.rename_rows.Given as goal

abbrev pub invariant-loop-index : goal.invariant-loop-index
invariant-loop-index l = record {
  so_far : AreRenamed l.initial.names l.initial.attrs.items l.list.nodes l.last l.parent l.index l.names l.attrs.items l.rows.items;
  once : StandOnce l.names;
}
