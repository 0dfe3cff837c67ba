use Rattle.std.proofs.Common.{◌+◌, ◌-◌, ◌*◌, length}
use Rattle.memchr.proofs.lemmas.SuffixLemmas.{IsScan}
use Rattle.selector_match.specs.TwoWay.{Precedes, lower_at}
use Rattle.selector_match.proofs.two_way.greatest_suffix.Given as goal

abbrev pub invariant-loop-other : goal.invariant-loop-other
invariant-loop-other l = IsScan (Precedes l.reversed) (lower_at l.part) (length l.part) l.place l.period l.other l.offset

abbrev pub decreases-loop-other : goal.decreases-loop-other
decreases-loop-other l = 2 * length l.part + 1 - (l.place + l.other + l.offset)
