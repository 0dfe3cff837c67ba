use Rattle.std.proofs.Common.{sym, ◌∙◌}
use Rattle.css_tokens.proofs.QuickLemmas.{mark_is_first, white_is_first}
use Rattle.css_tokens.proofs.quick.simple_token.Goals as goal

pub returns-then-is_blank : goal.returns-then-is_blank
returns-then-is_blank c =
    white_is_first _ _ _ _ c.in_ok-first.ensures.cases.0 (sym c.is_blank.ensures ∙ c.if-is_blank.true) c.blank_len.ensures.value

pub returns : goal.returns
returns c = mark_is_first _ _ _ _ c.in_ok-first.ensures.cases.0 c.in_ok-kind.ensures
