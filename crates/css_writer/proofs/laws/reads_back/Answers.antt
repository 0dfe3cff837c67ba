use Rattle.syntax_model.proofs.PreprocessLemmas.{reads_back}
use Rattle.css_writer.proofs.laws.reads_back.Goals as goal

pub returns : goal.returns
returns c = λ tokens writable. reads_back tokens writable
