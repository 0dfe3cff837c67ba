use Rattle.std.proofs.Common.{rules, refl}
use Rattle.base_model.proofs.Results.{on_err}
use Rattle.dom_tree.proofs.NameLemmas.{KeepsTexts-more}
use Rattle.dom_tree.proofs.ColumnLemmas.{rows_renamed, nodes_renamed, rows_stay, nodes_stay, rows_pushed, nodes_pushed}
use Rattle.dom_tree.proofs.node_columns.NodeColumns.push.Goals as goal

pub invariant_of-self : goal.invariant_of-self
invariant_of-self c = rows_renamed _ _ c.name_attrs.ensures.kept refl _ c.self.invariant

pub returns-in_err-name_attrs-clause-err : goal.returns-in_err-name_attrs-clause-err
returns-in_err-name_attrs-clause-err c = on_err _ _ (nodes_renamed _ _ c.name_attrs.ensures.kept refl _ c.self.invariant c.self.view_is)

pub invariant_of-self-in_err-intern : goal.invariant_of-self-in_err-intern
invariant_of-self-in_err-intern c = rows_renamed _ _ (KeepsTexts-more _ _ _ c.name_attrs.ensures.kept c.intern.ensures.kept) refl _ c.self.invariant

pub returns-in_err-intern-clause-err : goal.returns-in_err-intern-clause-err
returns-in_err-intern-clause-err c =
    let kept = KeepsTexts-more _ _ _ c.name_attrs.ensures.kept c.intern.ensures.kept in
    on_err _ _ (nodes_renamed _ _ kept refl _ c.self.invariant c.self.view_is)

pub invariant_of-self-in_err-new : goal.invariant_of-self-in_err-new
invariant_of-self-in_err-new c = rows_renamed _ _ (KeepsTexts-more _ _ _ c.name_attrs.ensures.kept c.intern.ensures.kept) refl _ c.self.invariant

pub returns-in_err-new-clause-err : goal.returns-in_err-new-clause-err
returns-in_err-new-clause-err c =
    let kept = KeepsTexts-more _ _ _ c.name_attrs.ensures.kept c.intern.ensures.kept in
    on_err _ _ (nodes_renamed _ _ kept refl _ c.self.invariant c.self.view_is)

pub invariant_of-self-in_err-extend_from_slice : goal.invariant_of-self-in_err-extend_from_slice
invariant_of-self-in_err-extend_from_slice c =
    rows_renamed _ _ (KeepsTexts-more _ _ _ c.name_attrs.ensures.kept c.intern.ensures.kept) c.in_err-extend_from_slice.ensures.items _ c.self.invariant

pub returns-in_err-extend_from_slice-clause-err : goal.returns-in_err-extend_from_slice-clause-err
returns-in_err-extend_from_slice-clause-err c =
    let kept = KeepsTexts-more _ _ _ c.name_attrs.ensures.kept c.intern.ensures.kept in
    on_err _ _ (nodes_renamed _ _ kept c.in_err-extend_from_slice.ensures.items _ c.self.invariant c.self.view_is)

pub invariant_of-self-in_err-push : goal.invariant_of-self-in_err-push
invariant_of-self-in_err-push c =
    rows_stay _ _ _ c.name_attrs.ensures.kept c.intern.ensures.kept _ c.deref.ensures.value c.in_ok-extend_from_slice.ensures.items _ c.self.invariant c.in_err-push.ensures.items

pub returns-in_err-push-clause-err : goal.returns-in_err-push-clause-err
returns-in_err-push-clause-err c = on_err _ _
    (nodes_stay _ _ _ c.name_attrs.ensures.kept c.intern.ensures.kept _ c.deref.ensures.value c.in_ok-extend_from_slice.ensures.items _ c.self.invariant c.in_err-push.ensures.items c.self.view_is)

pub invariant_of-self-2 : goal.invariant_of-self-2
invariant_of-self-2 c =
    let attrs = c.in_ok-name_attrs.ensures in
    rows_pushed _ _ _ c.name_attrs.ensures.kept c.intern.ensures.kept _ c.deref.ensures.value c.in_ok-extend_from_slice.ensures.items _ c.self.invariant attrs.rows _ c.in_ok-push.ensures.items
    (search rules) (search rules) c.args.node c.in_ok-intern.ensures.index

pub returns-clause-ok : goal.returns-clause-ok
returns-clause-ok c =
    let attrs = c.in_ok-name_attrs.ensures in
    nodes_pushed _ _ _ c.name_attrs.ensures.kept c.intern.ensures.kept _ c.deref.ensures.value c.in_ok-extend_from_slice.ensures.items _ c.self.invariant attrs.rows _ c.in_ok-push.ensures.items
    (search rules) (search rules) c.args.node c.in_ok-intern.ensures.index attrs.map refl c.self.view_is
