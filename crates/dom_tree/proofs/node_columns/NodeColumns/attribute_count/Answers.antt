use Rattle.dom_tree.proofs.ColumnLemmas.{row_at}
use Rattle.dom_tree.proofs.EditLemmas.{count_seen}
use Rattle.dom_tree.proofs.node_columns.NodeColumns.attribute_count.Goals as goal

pub returns : goal.returns
returns c = count_seen (row_at c.self.invariant c.self.view_is c.requires.index c.index.ensures) c.requires.once
