use Rattle.std.proofs.Common.{◌∙◌}
use Rattle.selector_match.proofs.FoldedLemmas.{begins_with-folded}
use Rattle.selector_match.proofs.compared.begins_with.Goals as goal

pub returns-then-part-text : goal.returns-then-part-text
returns-then-part-text c =
    c.is_same.ensures ∙ begins_with-folded c.args.case_counts c.args.text.now c.args.part.now
