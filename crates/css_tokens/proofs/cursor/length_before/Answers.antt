use Rattle.std.proofs.Common.{sym, ◌∙◌}
use Rattle.syntax_model.proofs.OutsideLemmas.{before_found, before_more}
use Rattle.css_tokens.proofs.cursor.length_before.Goals as goal

pub returns-then-ends-clause-len : goal.returns-then-ends-clause-len
returns-then-ends-clause-len c =
    before_found _ _ _ _ _ c.loop-len.invariant c.loop-len-test.true c.index-tokens-len.is (sym c.ends.ensures ∙ c.if-ends.true)

pub loop-len-preserved : goal.loop-len-preserved
loop-len-preserved c =
    before_more _ _ _ _ _ _ c.loop-len.invariant c.loop-len-test.true c.index-tokens-len.is (sym c.ends.ensures ∙ c.if-ends.false) c.in_ok-pass.ensures
