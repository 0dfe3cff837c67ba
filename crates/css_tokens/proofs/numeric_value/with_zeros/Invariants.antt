use Rattle.std.proofs.Common.{◌≡◌, ◌*◌, ◌^◌}
use Rattle.css_tokens.proofs.numeric_value.with_zeros.Given as goal

abbrev pub invariant-loop-left : goal.invariant-loop-left
invariant-loop-left l = l.value * 10 ^ l.left ≡ l.number * 10 ^ l.zeros

abbrev pub decreases-loop-left : goal.decreases-loop-left
decreases-loop-left l = l.left
