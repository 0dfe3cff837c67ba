use Rattle.std.proofs.Common.{ap, ◌∙◌, ◌++◌}
use Rattle.std.proofs.lemmas.Str.{IsUtf8-had}
use Rattle.stylo_base.proofs.TextLemmas.{chars_push, chars-ascii, utf8_push, utf8_same}
use Rattle.stylo_base.proofs.text.Text.push_str.Goals as goal

pub invariant_of-self : goal.invariant_of-self
invariant_of-self c = utf8_same _ _ c.self.invariant c.in_err-push_str.ensures.err

pub invariant_of-self-2 : goal.invariant_of-self-2
invariant_of-self-2 c = utf8_push _ _ _ c.self.invariant c.utf8.text c.in_ok-push_str.ensures.ok

pub returns-clause-ok : goal.returns-clause-ok
returns-clause-ok c =
    chars_push _ _ _ _ (IsUtf8-had _ c.self.invariant) c.in_ok-push_str.ensures.ok c.self.view_is

pub returns-clause-ascii : goal.returns-clause-ascii
returns-clause-ascii c h =
    chars_push _ _ _ _ (IsUtf8-had _ c.self.invariant) c.in_ok-push_str.ensures.ok c.self.view_is
    ∙ ap (λ cs. c.args.self.now ++ cs) (chars-ascii c.args.text.now h)
