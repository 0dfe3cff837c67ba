use Rattle.std.proofs.Common.{rules, ap, sym, Some}
use Rattle.dom_tree.proofs.ColumnLemmas.{row_at, text_by_atom}
use Rattle.dom_tree.proofs.NameLemmas.{text_is}
use Rattle.dom_tree.proofs.node_columns.NodeColumns.text_by_atom.Goals as goal

pub returns-in_err-value : goal.returns-in_err-value
returns-in_err-value c =
    text_by_atom (row_at c.self.invariant c.self.view_is c.requires c.index.ensures) c.deref.ensures.value c.of.ensures c.args.name.now (search rules) c.in_err-value.ensures.value

pub returns : goal.returns
returns c =
    let text = ap Some (sym (text_is c.self.inside.names c.in_ok-value.value _ c.text.ensures)) in
    text_by_atom (row_at c.self.invariant c.self.view_is c.requires c.index.ensures) c.deref.ensures.value c.of.ensures c.args.name.now text c.in_ok-value.ensures.value
