use Rattle.dom_tree.proofs.FlatLemmas.{AreFlat}
use Rattle.dom_tree.proofs.child_lists.ChildLists.of_lists.Given as goal

abbrev pub invariant-loop-numbers : goal.invariant-loop-numbers
invariant-loop-numbers l = AreFlat l.found l.flat.items l.spans.items l.numbers-index
