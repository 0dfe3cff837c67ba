use Rattle.ancestor_filter.specs.Paths.{IsRight}
use Rattle.filter_tests.proofs.walks.count_unlike.Given as goal

abbrev pub invariant-loop-x : goal.invariant-loop-x
invariant-loop-x l = IsRight l.doc.elements l.ancestors
