use Rattle.std.proofs.Common.{sym, ◌∙◌}
use Rattle.css_tokens.proofs.UrlLemmas.{letter_taken}
use Rattle.css_tokens.proofs.url.after_letter.Goals as goal

pub returns : goal.returns
returns c =
    letter_taken _ _ _ _ _ _ c.unit-taken.ensures.value c.in_ok-said.was (sym c.to_ascii_lowercase.ensures.value ∙ c.if-to_ascii_lowercase-letter.false) c.split_at.ensures.back
