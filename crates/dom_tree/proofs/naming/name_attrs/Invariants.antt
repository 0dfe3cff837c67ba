use Rattle.dom_tree.specs.View.{pair_of}
use Rattle.dom_tree.proofs.AttrLemmas.{AreRowsSoFar}
use Rattle.dom_tree.proofs.naming.name_attrs.Given as goal

abbrev pub invariant-loop-attr : goal.invariant-loop-attr
invariant-loop-attr l = AreRowsSoFar pair_of l.attrs l.initial.names l.attr-iterator.iter.rest.now l.names l.run.items
