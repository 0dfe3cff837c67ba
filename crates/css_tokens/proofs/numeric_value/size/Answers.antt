use Rattle.std.proofs.Common.{ap, sym, ◌∙◌, min, arith}
use Rattle.css_tokens.specs.Decimal.{many}
use Rattle.css_tokens.proofs.DecimalLemmas.{size_is, size_none}
use Rattle.css_tokens.proofs.numeric_value.size.Goals as goal

pub returns-then-point-decimal : goal.returns-then-point-decimal
returns-then-point-decimal c =
    sym (ap (min many) (size_none _ _ _ _ c.requires.whole c.requires.fraction c.if-point-decimal.true))

pub returns : goal.returns
returns c =
    c.front.ensures ∙ sym (ap (min many) (size_is _ _ _ _ _ c.requires.whole c.requires.fraction (omega (arith, c.if-point-decimal.false))))
