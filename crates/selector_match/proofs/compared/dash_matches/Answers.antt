use Rattle.std.proofs.Common.{sym, ◌∙◌}
use Rattle.selector_match.proofs.FoldedLemmas.{dash_after-folded, dash_missed-folded}
use Rattle.selector_match.proofs.compared.dash_matches.Goals as goal

pub returns-else-text-part : goal.returns-else-text-part
returns-else-text-part c =
    dash_after-folded c.args.case_counts c.args.text.now c.args.part.now (sym c.begins_with.ensures ∙ c.if-begins_with.true) c.if-text-part.false

pub returns-else-begins_with : goal.returns-else-begins_with
returns-else-begins_with c =
    c.if-begins_with.false
    ∙ dash_missed-folded c.args.case_counts c.args.text.now c.args.part.now (sym c.begins_with.ensures ∙ c.if-begins_with.false)
