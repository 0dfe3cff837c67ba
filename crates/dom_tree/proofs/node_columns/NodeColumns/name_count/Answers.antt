use Rattle.dom_tree.proofs.ColumnLemmas.{tags_named}
use Rattle.dom_tree.proofs.node_columns.NodeColumns.name_count.Goals as goal

pub returns-clause-tags : goal.returns-clause-tags
returns-clause-tags c = tags_named c.self.inside.attrs.items c.self.inside.rows.items c.self.invariant c.self.view_is
