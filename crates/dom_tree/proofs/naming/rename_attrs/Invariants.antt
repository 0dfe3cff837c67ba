use Rattle.std.specs.List.{AllByRecursion}
use Rattle.stylo_base.specs.NameList.{StandOnce}
use Rattle.dom_tree.specs.Kept.{IsNamed, named_pair}
use Rattle.dom_tree.proofs.AttrLemmas.{AreRowsSoFar}
use Rattle.dom_tree.proofs.naming.rename_attrs.Given as goal

abbrev pub invariant-loop-row : goal.invariant-loop-row
invariant-loop-row l = record {
  so_far : AreRowsSoFar (named_pair l.from) l.rows l.initial.names l.row-iterator.iter.rest.now l.names l.run.items;
  named : AllByRecursion (IsNamed l.from) l.row-iterator.iter.rest.now;
  once : StandOnce l.names;
}
