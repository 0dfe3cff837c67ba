use Rattle.std.proofs.Common.{◌≡◌, ◌+◌, ◌-◌, ◌<◌, ◌≤◌, ℕ, length}
use Rattle.memchr.specs.Find.{Nowhere}
use Rattle.selector_match.specs.TwoWay.{StandsAt, lower_at}
use Rattle.selector_match.proofs.two_way.search.Given as goal

-- the part stands nowhere before this place, and its first `known` bytes stand here
abbrev pub invariant-loop-place : goal.invariant-loop-place
invariant-loop-place l = record {
  within : l.place ≤ length l.text;
  passed : Nowhere (StandsAt l.text l.part) 0 l.place;
  short : l.known < length l.part;
  stands : (k : ℕ) → k < l.known → lower_at l.part k ≡ lower_at l.text (l.place + k);
}

abbrev pub decreases-loop-place : goal.decreases-loop-place
decreases-loop-place l = length l.text - l.place
