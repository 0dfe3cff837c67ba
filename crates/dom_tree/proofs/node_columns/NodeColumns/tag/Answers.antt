use Rattle.dom_tree.proofs.ColumnLemmas.{row_at, tag_seen, tag_within}
use Rattle.dom_tree.proofs.node_columns.NodeColumns.tag.Goals as goal

pub returns-clause-text : goal.returns-clause-text
returns-clause-text c = tag_seen (row_at c.self.invariant c.self.view_is c.requires c.index.ensures)

pub returns-clause-within : goal.returns-clause-within
returns-clause-within c = tag_within (row_at c.self.invariant c.self.view_is c.requires c.index.ensures)
