use Rattle.std.proofs.Common.{refl}
use Rattle.dom_tree.proofs.ColumnLemmas.{rows_renamed, nodes_renamed}
use Rattle.dom_tree.proofs.node_columns.NodeColumns.intern.Goals as goal

pub invariant_of-self : goal.invariant_of-self
invariant_of-self c = rows_renamed _ _ c.intern.ensures.kept refl _ c.self.invariant

pub returns-clause-nodes : goal.returns-clause-nodes
returns-clause-nodes c = nodes_renamed _ _ c.intern.ensures.kept refl _ c.self.invariant c.self.view_is
