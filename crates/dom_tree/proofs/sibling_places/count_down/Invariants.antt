use Rattle.std.proofs.Common.{length, drop, take, true}
use Rattle.scene_model.specs.Nodes.{listed}
use Rattle.dom_tree.specs.SiblingPlaces.{AreWritten, IsTally, type_place}
use Rattle.dom_tree.proofs.sibling_places.count_down.Given as goal

-- those that are still to come are counted
abbrev pub invariant-loop-sibling : goal.invariant-loop-sibling
invariant-loop-sibling l = record {
  tally : IsTally (listed l.columns.nodes) l.columns.names (length l.initial.tally.items) (drop l.sibling-index l.siblings) l.tally.items;
  written : AreWritten (type_place (listed l.columns.nodes) true l.siblings) (take l.sibling-index l.siblings) l.initial.after.items l.after.items;
}
