use Rattle.std.proofs.Common.{◌+◌, arith, ◌∷◌, sym, ap, ◌∙◌, drop}
use Rattle.css_tokens.specs.Reader.{tokens_left}
use Rattle.css_tokens.proofs.TokenizerLemmas.{scanned_left}
use Rattle.css_tokens.proofs.token_reader.TokenReader.next.Goals as goal

pub returns-clause-first : goal.returns-clause-first
returns-clause-first c =
    sym c.self.view_is
    ∙ (scanned_left _ _ _ _ _ c.scan-scan.result c.as_slice-all.ensures.value c.past_comments-start.ensures.same c.past_comments-start.ensures.inside c.split_at.ensures.back c.past_comments-start.ensures.past (omega (arith, c.scan-scan.ensures.some, c.scan-scan.ensures.inside)) c.scan-scan.ensures.len c.scan-scan.ensures.tokens
    ∙ ap (λ t. t ∷ tokens_left (c.past_comments-start.result + c.scan-scan.result.len) c.self.inside.text.items) (sym c.in_ok-token.ensures))

pub returns-clause-rest : goal.returns-clause-rest
returns-clause-rest c = sym (ap (drop 1) (returns-clause-first c))
