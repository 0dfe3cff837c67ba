use Rattle.std.proofs.Common.{ap, arith, sym, ◌∙◌}
use Rattle.syntax_model.specs.TextUnits.{TextUnit}
use Rattle.css_tokens.proofs.RunLemmas.{read_all, read_more, read_plain}
use Rattle.css_tokens.proofs.run.run_len.Goals as goal

pub loop-after-preserved : goal.loop-after-preserved
loop-after-preserved c =
    let front = read_plain c.args.grammar _ _ _ _ _ c.loop-after.invariant c.plain_len-plain.ensures.value c.split_at.ensures.back in
    read_more c.args.grammar _ _ _ _ _ front (ap (λ (u : TextUnit). u.taken) c.unit-taken.ensures.value) (omega (arith, c.if-taken-eq0.false)) c.split_at-in-loop-after.ensures.back

pub returns-then-taken-eq0-clause-value : goal.returns-then-taken-eq0-clause-value
returns-then-taken-eq0-clause-value c =
    let front = read_plain c.args.grammar _ _ _ _ _ c.loop-after.invariant c.plain_len-plain.ensures.value c.split_at.ensures.back in
    read_all c.args.grammar _ _ _ front (sym (ap (λ (u : TextUnit). u.taken) c.unit-taken.ensures.value) ∙ c.if-taken-eq0.true)
