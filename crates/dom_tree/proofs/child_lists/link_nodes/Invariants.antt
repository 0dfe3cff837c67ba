use Rattle.dom_tree.proofs.ChildLemmas.{AreChildrenSoFar}
use Rattle.dom_tree.proofs.child_lists.link_nodes.Given as goal

abbrev pub invariant-loop-index : goal.invariant-loop-index
invariant-loop-index l = AreChildrenSoFar l.list l.index l.lists.items
