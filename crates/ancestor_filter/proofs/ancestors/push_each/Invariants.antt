use Rattle.ancestor_filter.proofs.ReachLemmas.{AreAdded}
use Rattle.ancestor_filter.proofs.ancestors.push_each.Given as goal

abbrev pub invariant-loop-index : goal.invariant-loop-index
invariant-loop-index l = AreAdded l.doc.elements l.elements l.fn.filter l.filter l.index
