use Rattle.std.proofs.Common.{rules, refl, ap, Some, ◌∙◌, ◌++◌}
use Rattle.dom_tree.specs.declared.node_columns.NodeRow.{NodeRow}
use Rattle.dom_tree.proofs.AttrLemmas.{rows_are_named}
use Rattle.dom_tree.proofs.AppendedColumns.{names_more, node_renamed, row_renamed, rows_more}
use Rattle.dom_tree.proofs.ColumnLemmas.{part_named, row_at}
use Rattle.dom_tree.proofs.NameLemmas.{KeepsTexts-more}
use Rattle.dom_tree.proofs.node_columns.append.rename_row.Goals as goal

pub rename_attrs-requires-clause-named : goal.rename_attrs-requires-clause-named
rename_attrs-requires-clause-named c =
    let at = row_at c.list.invariant c.list.view_is c.requires.index c.index-row.ensures in
    rows_are_named c.list.inside.names _ (part_named at c.deref.ensures.value c.of.ensures)

pub returns-in_err-rename_attrs-clause-kept : goal.returns-in_err-rename_attrs-clause-kept
returns-in_err-rename_attrs-clause-kept c = names_more _ _ c.rename_attrs.ensures.kept refl

pub returns-in_err-tag-clause-kept : goal.returns-in_err-tag-clause-kept
returns-in_err-tag-clause-kept c = names_more _ _ (KeepsTexts-more _ _ _ c.rename_attrs.ensures.kept c.intern.ensures.kept) refl

pub returns-in_err-span-clause-kept : goal.returns-in_err-span-clause-kept
returns-in_err-span-clause-kept c = names_more _ _ (KeepsTexts-more _ _ _ c.rename_attrs.ensures.kept c.intern.ensures.kept) refl

pub returns-in_err-extend_from_slice-clause-kept : goal.returns-in_err-extend_from_slice-clause-kept
returns-in_err-extend_from_slice-clause-kept c = names_more _ _ (KeepsTexts-more _ _ _ c.rename_attrs.ensures.kept c.intern.ensures.kept) c.in_err-extend_from_slice.ensures.items

pub returns-clause-kept : goal.returns-clause-kept
returns-clause-kept c = rows_more _ _ _ (KeepsTexts-more _ _ _ c.rename_attrs.ensures.kept c.intern.ensures.kept) c.in_ok-extend_from_slice.ensures.items

pub returns-clause-row : goal.returns-clause-row
returns-clause-row c =
    let at = row_at c.list.invariant c.list.view_is c.requires.index c.index-row.ensures in
    let longer = c.in_ok-extend_from_slice.ensures.items ∙ ap (λ l. c.args.attrs.now.items ++ l) c.deref-2.ensures.value in
    row_renamed at c.rename_attrs.new.names c.intern.new.self c.intern.ensures.kept c.args.attrs.now.items c.rename_attrs.new.run.items longer c.in_ok-rename_attrs.ensures.rows _
    (search rules) (search rules) c.in_ok-tag.ensures.index

pub returns-clause-node : goal.returns-clause-node
returns-clause-node c =
    let at = row_at c.list.invariant c.list.view_is c.requires.index c.index-row.ensures in
    let longer = c.in_ok-extend_from_slice.ensures.items ∙ ap (λ l. c.args.attrs.now.items ++ l) c.deref-2.ensures.value in
    let made : NodeRow = record { parent = Some c.args.above; tag = c.in_ok-tag.tag; states = c.index-row.result.now.states; attrs = c.in_ok-span.span } in
    node_renamed at c.rename_attrs.new.names c.intern.new.self c.intern.ensures.kept c.args.attrs.now.items c.rename_attrs.new.run.items longer c.in_ok-rename_attrs.ensures.rows made
    (search rules) (search rules) c.in_ok-tag.ensures.index c.deref.ensures.value c.of.ensures c.in_ok-rename_attrs.ensures.map c.text.ensures refl refl
