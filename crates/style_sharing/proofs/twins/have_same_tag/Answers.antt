use Rattle.std.proofs.Common.{◌∙◌}
use Rattle.stylo_base.proofs.TextLemmas.{same_test}
use Rattle.style_sharing.proofs.twins.have_same_tag.Goals as goal

pub returns : goal.returns
returns c = rw (← c.tag.ensures, ← c.tag-2.ensures) (c.eq.ensures ∙ same_test _ _ c.tag.utf8 c.tag-2.utf8)
