use Rattle.std.proofs.lemmas.Str.{IsUtf8-had}
use Rattle.stylo_base.proofs.TextLemmas.{chars_push_one, utf8_push_one, utf8_same}
use Rattle.stylo_base.proofs.text.Text.push_char.Goals as goal

pub invariant_of-self : goal.invariant_of-self
invariant_of-self c = utf8_same _ _ c.self.invariant c.in_err-push_char.ensures.err

pub invariant_of-self-2 : goal.invariant_of-self-2
invariant_of-self-2 c = utf8_push_one _ _ _ c.self.invariant c.ranges.c.0 c.in_ok-push_char.ensures.ok

pub returns : goal.returns
returns c = chars_push_one _ _ _ _ c.ranges.c.0 (IsUtf8-had _ c.self.invariant) c.in_ok-push_char.ensures.ok c.self.view_is
