use Rattle.dom_tree.specs.ChildLists.{lists_of}
use Rattle.dom_tree.proofs.FlatLemmas.{AreFlat}
use Rattle.dom_tree.proofs.child_lists.ChildLists.packed.Given as goal

abbrev pub invariant-loop-span : goal.invariant-loop-span
invariant-loop-span l = AreFlat (lists_of l.self.flat.items l.self.spans.items) l.flat.items l.spans.items l.span-index
