use Rattle.std.proofs.Common.{take}
use Rattle.dom_tree.specs.SiblingPlaces.{AreWritten}
use Rattle.dom_tree.proofs.doc.subtrees.mark.Given as goal

abbrev pub invariant-loop-number : goal.invariant-loop-number
invariant-loop-number l = AreWritten (λ _. l.is) (take l.number-index l.numbers) l.initial.present.items l.present.items
