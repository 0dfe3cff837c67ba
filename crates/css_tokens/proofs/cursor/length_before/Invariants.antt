use Rattle.syntax_model.proofs.OutsideLemmas.{IsBefore}
use Rattle.css_tokens.specs.View.{separates}
use Rattle.css_tokens.proofs.cursor.length_before.Given as goal

abbrev pub invariant-loop-len : goal.invariant-loop-len
invariant-loop-len l = IsBefore (separates l.separator) l.tokens l.len l.brackets
