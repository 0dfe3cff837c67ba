use Rattle.std.proofs.Common.{arith, refl, sym, ap, ◌∙◌, drop}
use Rattle.css_tokens.proofs.TokenizerLemmas.{scanned_left}
use Rattle.css_tokens.proofs.token_reader.TokenReader.pass.Goals as goal

pub returns-clause-first : goal.returns-clause-first
returns-clause-first c = record {
  token = _;
  first = sym c.self.view_is
      ∙ scanned_left _ _ _ _ _ c.scan-scan.result c.as_slice-all.ensures.value c.past_comments-start.ensures.same c.past_comments-start.ensures.inside c.split_at.ensures.back c.past_comments-start.ensures.past (omega (arith, c.scan-scan.ensures.some, c.scan-scan.ensures.inside)) c.scan-scan.ensures.len c.scan-scan.ensures.tokens;
  same_kind = refl;
}

pub returns-clause-rest : goal.returns-clause-rest
returns-clause-rest c = sym (ap (drop 1) (returns-clause-first c).first)
