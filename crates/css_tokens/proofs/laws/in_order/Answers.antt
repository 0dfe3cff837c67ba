use Rattle.syntax_model.proofs.ReadingLemmas.{in_order}
use Rattle.css_tokens.proofs.laws.in_order.Goals as goal

pub returns : goal.returns
returns c = λ text tokens reads. in_order text tokens reads
