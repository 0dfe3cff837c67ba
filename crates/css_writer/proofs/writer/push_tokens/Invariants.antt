use Rattle.std.proofs.Common.{◌≡◌, ◌++◌, length}
use Rattle.syntax_model.specs.Written.{written}
use Rattle.css_writer.proofs.writer.push_tokens.Given as goal

abbrev pub invariant-loop-token : goal.invariant-loop-token
invariant-loop-token l = l.out ++ written l.rest ≡ l.initial.out ++ written l.tokens

abbrev pub decreases-loop-token : goal.decreases-loop-token
decreases-loop-token l = length l.rest
