use Rattle.dom_tree.proofs.ColumnLemmas.{row_at}
use Rattle.dom_tree.proofs.EditLemmas.{out_rows, out_nodes}
use Rattle.dom_tree.proofs.node_columns.NodeColumns.leave_out.Goals as goal

pub invariant_of-self-2 : goal.invariant_of-self-2
invariant_of-self-2 c =
    let at = row_at c.self.invariant c.self.view_is c.requires.index c.index.ensures in
    out_rows at c.deref.ensures.value c.of.ensures c.in_ok-read_run.ensures c.args.name c.requires.once c.requires.name c.deref-2.ensures.value
    c.in_ok-give_run.ensures.list c.in_ok-give_run.ensures.rows c.take_out.ensures

pub returns-clause-ok : goal.returns-clause-ok
returns-clause-ok c =
    let at = row_at c.self.invariant c.self.view_is c.requires.index c.index.ensures in
    out_nodes at c.deref.ensures.value c.of.ensures c.in_ok-read_run.ensures c.args.name c.requires.once c.requires.name c.deref-2.ensures.value
    c.in_ok-give_run.ensures.list c.in_ok-give_run.ensures.rows c.take_out.ensures
