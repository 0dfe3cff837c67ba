use Rattle.std.proofs.Common.{◌≡◌, ◌++◌, length}
use Rattle.css_tokens.proofs.run.text_by_blocks.Given as goal

abbrev pub invariant-loop-rest : goal.invariant-loop-rest
invariant-loop-rest l = l.said ++ l.rest ≡ l.text

abbrev pub decreases-loop-rest : goal.decreases-loop-rest
decreases-loop-rest l = length l.rest
