use Rattle.std.proofs.Common.{length}
use Rattle.ancestor_filter.specs.Paths.{IsRight}
use Rattle.ancestor_filter.proofs.ancestors.Ancestors.leave_to.Given as goal

abbrev pub invariant-loop-y : goal.invariant-loop-y
invariant-loop-y l = IsRight l.doc.elements l.self

abbrev pub decreases-loop-y : goal.decreases-loop-y
decreases-loop-y l = length l.self.elements
