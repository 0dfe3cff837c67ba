use Rattle.stylo_base.proofs.TextLemmas.{chars_none, utf8_none}
use Rattle.stylo_base.proofs.text.Text.with_capacity.Goals as goal

pub returns : goal.returns
returns c = chars_none _ c.in_ok-with_capacity.ensures

pub invariant_of-result : goal.invariant_of-result
invariant_of-result c = utf8_none _ c.in_ok-with_capacity.ensures
