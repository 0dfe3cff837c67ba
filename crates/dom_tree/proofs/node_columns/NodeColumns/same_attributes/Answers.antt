use Rattle.dom_tree.proofs.ColumnLemmas.{row_at, same_attributes_seen}
use Rattle.dom_tree.proofs.node_columns.NodeColumns.same_attributes.Goals as goal

pub returns : goal.returns
returns c =
    let one = row_at c.self.invariant c.self.view_is c.requires.one c.index.ensures in
    let other = row_at c.self.invariant c.self.view_is c.requires.other c.index-2.ensures in
    same_attributes_seen one other c.requires.once c.deref.ensures.value c.of.ensures c.deref-2.ensures.value c.of-2.ensures c.same_rows.ensures
