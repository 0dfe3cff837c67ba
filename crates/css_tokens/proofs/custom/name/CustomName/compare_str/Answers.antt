use Rattle.std.proofs.Common.{ap, ◌∙◌}
use Rattle.std.specs.Cmp.Lexicographic.{slice_cmp}
use Rattle.std.specs.Ordering.{nat_cmp}
use Rattle.std.specs.Str.{chars}
use Rattle.css_tokens.proofs.OrderLemmas.{text_order}
use Rattle.css_tokens.proofs.custom.name.CustomName.compare_str.Goals as goal

pub returns : goal.returns
returns c =
    c.cmp.ensures
    ∙ (text_order c.as_str.result.now c.args.other.now c.as_str.utf8 c.utf8.other ∙ ap (λ cs. slice_cmp nat_cmp cs (chars c.args.other.now)) c.as_str.ensures)
