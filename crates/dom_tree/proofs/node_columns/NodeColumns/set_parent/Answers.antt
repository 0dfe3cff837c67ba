use Rattle.dom_tree.proofs.ColumnLemmas.{row_at}
use Rattle.dom_tree.proofs.EditLemmas.{parent_nodes}
use Rattle.dom_tree.proofs.node_columns.NodeColumns.set_parent.Goals as goal

pub returns-clause-nodes : goal.returns-clause-nodes
returns-clause-nodes c = parent_nodes (row_at c.self.invariant c.self.view_is c.requires.index c.index_mut.ensures.value) c.args.parent
