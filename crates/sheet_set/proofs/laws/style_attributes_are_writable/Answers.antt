use Rattle.sheet_model.specs.Declared.{style_declared}
use Rattle.sheet_model.proofs.DeclaredWritable.{style_declared_writable}
use Rattle.sheet_set.proofs.WritableLemmas.{declared_pass}
use Rattle.sheet_set.proofs.laws.style_attributes_are_writable.Goals as goal

pub returns : goal.returns
returns c = λ text. declared_pass (style_declared text) (style_declared_writable text)
