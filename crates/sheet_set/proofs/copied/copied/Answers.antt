use Rattle.std.proofs.Common.{◌∷◌, ◌++◌, [], sym, ap, ◌∙◌, take}
use Rattle.std.proofs.lemmas.List.{take_more}
use Rattle.sheet_set.proofs.copied.copied.Goals as goal

pub loop-sheet-preserved : goal.loop-sheet-preserved
loop-sheet-preserved c =
    let item = c.sheet-item.result in
    let sheets = c.args.sheets.now in
    let i = c.loop-sheet.sheet-index in
    let before = c.loop-sheet.list.items in
    c.in_ok-push.ensures.items
    ∙ (ap (λ t. before ++ (record item { text = t }) ∷ []) c.in_ok-text.ensures
    ∙ (ap (λ l. l ++ item ∷ []) c.loop-sheet.invariant
    ∙ (ap (λ x. take i sheets ++ x ∷ []) c.sheet-item.is ∙ sym (take_more sheets i item c.loop-sheet-test.true))))
