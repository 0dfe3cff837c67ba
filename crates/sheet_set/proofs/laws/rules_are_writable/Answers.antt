use Rattle.sheet_model.specs.StyleRules.{style_rules_in}
use Rattle.sheet_model.proofs.DeclaredWritable.{style_rules_writable}
use Rattle.sheet_set.proofs.WritableLemmas.{rules_pass}
use Rattle.sheet_set.proofs.laws.rules_are_writable.Goals as goal

pub returns : goal.returns
returns c = λ edition text. rules_pass (style_rules_in edition text) (style_rules_writable edition text)
