use Rattle.std.proofs.Common.{[], ◌∷◌, sym, ◌∙◌}
use Rattle.css_tokens.specs.View.{bracket_of}
use Rattle.css_tokens.proofs.InsideLemmas.{counted_more, counted_closed}
use Rattle.css_tokens.proofs.cursor.inside_len.Goals as goal

pub loop-len-preserved : goal.loop-len-preserved
loop-len-preserved c =
    counted_more (bracket_of c.args.bracket ∷ []) c.args.tokens.now c.loop-len.len c.index-tokens-len.result c.loop-len.brackets c.pass.new.self c.loop-len.invariant c.loop-len-test.true
    c.index-tokens-len.is c.in_ok-pass.ensures (sym c.is_empty.ensures ∙ c.if-is_empty.false)

pub returns-then-is_empty-clause-value : goal.returns-then-is_empty-clause-value
returns-then-is_empty-clause-value c =
    counted_closed (bracket_of c.args.bracket ∷ []) c.args.tokens.now c.loop-len.len c.index-tokens-len.result c.loop-len.brackets c.pass.new.self c.loop-len.invariant c.loop-len-test.true
    c.index-tokens-len.is c.in_ok-pass.ensures (sym c.is_empty.ensures ∙ c.if-is_empty.true)
