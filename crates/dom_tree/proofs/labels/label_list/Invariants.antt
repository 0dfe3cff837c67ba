use Rattle.std.proofs.Common.{◌≡◌}
use Rattle.dom_tree.proofs.MoreLabels.{AreMoreSoFar}
use Rattle.dom_tree.proofs.labels.label_list.Given as goal

abbrev pub invariant-loop-index : goal.invariant-loop-index
invariant-loop-index l = record {
  so_far : AreMoreSoFar l.initial.columns.names l.initial.lists l.list.nodes l.index l.columns.names l.lists l.cuts.items l.labels.items;
  nodes : l.columns.nodes ≡ l.initial.columns.nodes;
}
