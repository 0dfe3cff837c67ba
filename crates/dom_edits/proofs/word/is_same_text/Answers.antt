use Rattle.std.proofs.Common.{◌∙◌}
use Rattle.stylo_base.proofs.TextLemmas.{same_test}
use Rattle.dom_edits.proofs.word.is_same_text.Goals as goal

pub returns : goal.returns
returns c = c.eq.ensures ∙ same_test _ _ c.utf8.one c.utf8.other
