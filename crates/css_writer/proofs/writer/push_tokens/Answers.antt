use Rattle.std.proofs.Common.{ap, ◌++◌, ◌∙◌}
use Rattle.syntax_model.specs.Written.{gap}
use Rattle.css_writer.proofs.WriterLemmas.{write_all, write_more}
use Rattle.css_writer.proofs.writer.push_tokens.Goals as goal

pub loop-token-preserved : goal.loop-token-preserved
loop-token-preserved c =
    write_more _ _ _ _ _ _ _ c.loop-token.invariant c.in-Some.ensures.cases.0 c.in_ok-push_token.ensures (c.in_ok-push_gap.ensures ∙ ap (λ kind. c.push_token.new.out ++ gap kind c.in-Some.after.now) c.kind.ensures)

pub returns : goal.returns
returns c = write_all _ _ _ c.loop-token.invariant c.in_default.ensures.cases
