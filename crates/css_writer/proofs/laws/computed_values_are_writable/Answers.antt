use Rattle.custom_model.proofs.ExpandWritable.{resolved_writable}
use Rattle.css_writer.proofs.laws.computed_values_are_writable.Goals as goal

pub returns : goal.returns
returns c = λ declared inherited each kept name value is. resolved_writable declared inherited each kept name value is
