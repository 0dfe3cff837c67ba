use Rattle.syntax_model.proofs.ReadingLemmas.{reads_as}
use Rattle.css_tokens.proofs.laws.reads_as.Goals as goal

pub returns : goal.returns
returns c = λ text tokens. reads_as text tokens
