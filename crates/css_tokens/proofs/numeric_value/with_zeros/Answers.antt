use Rattle.std.proofs.Common.{refl, ap, ◌∙◌, min, arith}
use Rattle.css_tokens.specs.Decimal.{many}
use Rattle.css_tokens.proofs.DecimalLemmas.{zero_more, zeros_none, zeros_of_none, zeros_past}
use Rattle.css_tokens.proofs.numeric_value.with_zeros.Goals as goal
use Rattle.css_tokens.proofs.numeric_value.with_zeros.Goals.{then-loop-left-test+then-value-gt0+else-value-lt-MANY, then-loop-left-test+else-value-gt0, else-loop-left-test}

pub loop-left-preserved : goal.loop-left-preserved
loop-left-preserved c = zero_more _ _ _ _ c.loop-left.invariant c.loop-left-test.true refl

pub returns : goal.returns
returns c =
    c.min.ensures ∙ (elim c.loop-left-test.branch [
      | then-loop-left-test+then-value-gt0+else-value-lt-MANY w ↦ zeros_past _ c.loop-left.left w.if-value-lt-MANY.false
      | then-loop-left-test+else-value-gt0 w ↦ zeros_of_none _ c.loop-left.left (omega (arith, w.if-value-gt0.false))
      | else-loop-left-test w ↦ zeros_none _ c.loop-left.left (omega (arith, w.loop-left-test.false))
    ] ∙ ap (min many) c.loop-left.invariant)
