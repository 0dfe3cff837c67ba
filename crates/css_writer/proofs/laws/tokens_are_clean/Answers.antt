use Rattle.syntax_model.proofs.CleanTokens.{text_tokens_clean}
use Rattle.css_writer.proofs.laws.tokens_are_clean.Goals as goal

pub returns : goal.returns
returns c = λ text. text_tokens_clean text
