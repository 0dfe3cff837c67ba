use Rattle.custom_model.proofs.ExpandWritable.{expansion_writable}
use Rattle.css_writer.proofs.laws.expansions_are_writable.Goals as goal

pub returns : goal.returns
returns c = λ values all tokens result writable is. expansion_writable values all tokens result writable is
