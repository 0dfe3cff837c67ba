use Rattle.std.proofs.Common.{◌≡◌, length, take, false}
use Rattle.scene_model.specs.Nodes.{listed}
use Rattle.dom_tree.specs.SiblingPlaces.{AreWritten, IsTally, index_among, type_place}
use Rattle.dom_tree.proofs.sibling_places.count_up.Given as goal

abbrev pub invariant-loop-sibling : goal.invariant-loop-sibling
invariant-loop-sibling l = record {
  placed : l.place ≡ l.sibling-index;
  tally : IsTally (listed l.columns.nodes) l.columns.names (length l.initial.tally.items) (take l.sibling-index l.siblings) l.tally.items;
  index : AreWritten (index_among l.siblings) (take l.sibling-index l.siblings) l.initial.places.items l.places.items;
  before : AreWritten (type_place (listed l.columns.nodes) false l.siblings) (take l.sibling-index l.siblings) l.initial.before.items l.before.items;
}
