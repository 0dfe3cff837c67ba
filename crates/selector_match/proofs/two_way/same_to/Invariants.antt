use Rattle.std.proofs.Common.{◌≡◌, ◌+◌, ◌<◌, ◌≤◌, ℕ}
use Rattle.selector_match.specs.TwoWay.{lower_at}
use Rattle.selector_match.proofs.two_way.same_to.Given as goal

abbrev pub invariant-loop-k : goal.invariant-loop-k
invariant-loop-k l = (j : ℕ) → l.low ≤ j → j < l.k → lower_at l.part j ≡ lower_at l.text (l.place + j)
