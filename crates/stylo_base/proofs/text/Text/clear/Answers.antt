use Rattle.stylo_base.proofs.TextLemmas.{chars_none, utf8_none}
use Rattle.stylo_base.proofs.text.Text.clear.Goals as goal

pub returns : goal.returns
returns c = chars_none _ c.clear.ensures

pub invariant_of-self : goal.invariant_of-self
invariant_of-self c = utf8_none _ c.clear.ensures
