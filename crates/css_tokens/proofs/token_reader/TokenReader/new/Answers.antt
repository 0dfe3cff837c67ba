use Rattle.std.proofs.Common.{ap, ◌∙◌}
use Rattle.css_tokens.specs.Reader.{tokens_left}
use Rattle.css_tokens.proofs.TokenizerLemmas.{left_at_start}
use Rattle.css_tokens.proofs.token_reader.TokenReader.new.Goals as goal

pub returns : goal.returns
returns c = ap (tokens_left 0) c.in_ok-text.ensures ∙ left_at_start _
