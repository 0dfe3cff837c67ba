use Rattle.syntax_model.specs.Preprocess.{preprocessed}
use Rattle.syntax_model.specs.TokensIn.{tokens_in}
use Rattle.syntax_model.proofs.PreprocessLemmas.{reads_back}
use Rattle.css_writer.proofs.laws.text_reads_back.Goals as goal

pub returns : goal.returns
returns c = λ text writable. reads_back (tokens_in (preprocessed text)) writable
