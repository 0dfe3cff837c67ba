use Rattle.std.proofs.Common.{◌∙◌}
use Rattle.base_model.specs.Text.{ascii_lower}
use Rattle.selector_match.proofs.FoundLemmas.{has_part-found}
use Rattle.selector_match.proofs.compared.has_part.Goals as goal

pub returns-then-case_counts : goal.returns-then-case_counts
returns-then-case_counts c =
    rw c.if-case_counts.true (c.is_some.ensures ∙ has_part-found c.args.text.now c.args.part.now c.find.result c.find.ensures)

pub returns-else-case_counts : goal.returns-else-case_counts
returns-else-case_counts c =
    rw c.if-case_counts.false (c.is_some-else-case_counts.ensures ∙ has_part-found (ascii_lower c.args.text.now) (ascii_lower c.args.part.now) c.find_ignoring_case.result c.find_ignoring_case.ensures)
