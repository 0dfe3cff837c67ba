use Rattle.std.proofs.Common.{rules, subst, sym, ◌≡◌, None, option_map}
use Rattle.std.specs.FinMap as finmap
use Rattle.scene_model.specs.Nodes.{Node}
use Rattle.dom_tree.specs.Kept.{text_of, IsNameOf}
use Rattle.dom_tree.proofs.ColumnLemmas.{AtIndex, row_at, value_found, value_unseen, value_within}
use Rattle.dom_tree.proofs.node_columns.NodeColumns.value.Goals as goal

pub returns-in_err-name-clause-value : goal.returns-in_err-name-clause-value
returns-in_err-name-clause-value c text is =
    let none : c.from_residual.result ≡ None = search rules in
    subst (λ o. AtIndex c.args.self.now c.args.index (λ (node : Node). option_map (text_of c.args.self.now.names) o ≡ finmap.get node.attrs text)) (sym none)
    (value_unseen (row_at c.self.invariant c.self.view_is c.requires.index c.index.ensures) text (subst (IsNameOf c.args.self.now.names text) c.in_err-name.was is))

pub returns-clause-value : goal.returns-clause-value
returns-clause-value c text is =
    let at = row_at c.self.invariant c.self.view_is c.requires.index c.index.ensures in
    let named = subst (IsNameOf c.args.self.now.names text) c.in_ok-name.was is in
    value_found at c.deref.ensures.value c.of.ensures c.in_ok-name.field-0 named c.requires.once c.value_among.ensures

pub returns-clause-within : goal.returns-clause-within
returns-clause-within c =
    value_within (row_at c.self.invariant c.self.view_is c.requires.index c.index.ensures) c.deref.ensures.value c.of.ensures c.in_ok-name.field-0 c.value_among.ensures
