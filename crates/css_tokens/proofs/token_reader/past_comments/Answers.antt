use Rattle.std.proofs.Common.{arith, sym, ◌∙◌}
use Rattle.css_tokens.proofs.TokenizerLemmas.{comment_tokens, read_past}
use Rattle.css_tokens.proofs.token_reader.past_comments.Goals as goal

pub loop-rest-preserved : goal.loop-rest-preserved
loop-rest-preserved c =
    let none = comment_tokens c.loop-rest.rest.now (sym c.starts_comment.ensures ∙ c.loop-rest-test.true) c.loop-rest.start in
    read_past _ _ _ _ _ _ c.loop-rest.invariant (omega (arith, c.scan-len.ensures.some, c.scan-len.ensures.inside)) c.scan-len.ensures.len c.scan-len.ensures.inside none c.split_at-in-loop-rest.ensures.back
