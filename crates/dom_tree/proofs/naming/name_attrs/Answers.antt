use Rattle.std.proofs.Common.{rules}
use Rattle.dom_tree.proofs.NameLemmas.{KeepsTexts-more}
use Rattle.dom_tree.proofs.AttrLemmas.{no_rows, next_row}
use Rattle.dom_tree.proofs.naming.name_attrs.Goals as goal

pub loop-attr-init : goal.loop-attr-init
loop-attr-init c = no_rows c.clear.ensures.items (search rules)

pub returns-in_err-value-clause-kept : goal.returns-in_err-value-clause-kept
returns-in_err-value-clause-kept c = KeepsTexts-more _ _ _ (KeepsTexts-more _ _ _ c.loop-attr.invariant.kept c.intern.ensures.kept) c.intern-in-loop-attr.ensures.kept

pub loop-attr-preserved : goal.loop-attr-preserved
loop-attr-preserved c =
    let name = c.intern.ensures in
    let value = c.intern-in-loop-attr.ensures in
    next_row c.loop-attr.invariant _ _ name.kept value.kept value.distinct c.in-Some.attr.now _ _ c.in_ok-name.ensures.index c.in_ok-value.ensures.index c.in-Some.ensures.steps c.in_ok-put.ensures.ok

pub returns-in_err-put-clause-kept : goal.returns-in_err-put-clause-kept
returns-in_err-put-clause-kept c = KeepsTexts-more _ _ _ (KeepsTexts-more _ _ _ c.loop-attr.invariant.kept c.intern.ensures.kept) c.intern-in-loop-attr.ensures.kept
