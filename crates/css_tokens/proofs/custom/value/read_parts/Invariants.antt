use Rattle.std.proofs.Common.{◌≡◌, false, map}
use Rattle.syntax_model.specs.Token.{said}
use Rattle.custom_model.specs.Steps.{steps_in}
use Rattle.css_tokens.specs.Validity.{found_after}
use Rattle.css_tokens.proofs.custom.value.read_parts.Given as goal

abbrev pub invariant-loop-reader : goal.invariant-loop-reader
invariant-loop-reader l = found_after l.refers l.reader.steps ≡ found_after false (steps_in (map said l.tokens))

abbrev pub decreases-loop-reader : goal.decreases-loop-reader
decreases-loop-reader l = l.reader.tokens
