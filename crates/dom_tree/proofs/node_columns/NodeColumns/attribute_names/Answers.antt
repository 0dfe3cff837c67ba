use Rattle.dom_tree.proofs.ColumnLemmas.{attribute_names_seen, row_at, rows_named}
use Rattle.dom_tree.proofs.node_columns.NodeColumns.attribute_names.Goals as goal

pub new-requires : goal.new-requires
new-requires c = rows_named (row_at c.self.invariant c.self.view_is c.requires.index c.index.ensures) c.deref.ensures.value c.of.ensures

pub returns : goal.returns
returns c =
    attribute_names_seen (row_at c.self.invariant c.self.view_is c.requires.index c.index.ensures) c.deref.ensures.value c.of.ensures c.requires.once c.new.ensures
