use Rattle.std.proofs.Common.{ap, sym, ◌∙◌, arith}
use Rattle.syntax_model.specs.TokenKinds.{is_white}
use Rattle.syntax_model.specs.Outside.{from_first}
use Rattle.shorthands.proofs.BlockLemmas.{first_later}
use Rattle.shorthands.proofs.word.from_white.Goals as goal

pub tokens-preserved : goal.tokens-preserved
tokens-preserved c = record {
  rest = ap (from_first is_white) c.after_one-rest.ensures.rest
      ∙ (sym (first_later is_white c.tokens.rest.now _ _ c.in-Some.ensures.cases.0 (sym c.is_white.ensures ∙ c.if-is_white.false))
      ∙ c.tokens.invariant.rest);
  within = omega (arith, c.in-Some.ensures.cases.1);
}
