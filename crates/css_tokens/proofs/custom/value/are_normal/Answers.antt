use Rattle.std.proofs.Common.{sym, ◌∙◌}
use Rattle.css_tokens.proofs.NormalLemmas.{white_first}
use Rattle.css_tokens.proofs.custom.value.are_normal.Goals as goal

pub returns-then-is_white : goal.returns-then-is_white
returns-then-is_white c = (
  λ t. cc,
  white_first c.args.tokens.now c.in-Some.rest.now c.in-Some.first.now c.in-Some.ensures.cases.0 (sym c.is_white.ensures ∙ c.if-is_white.true),
)
