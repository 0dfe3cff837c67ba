use Rattle.std.proofs.Common.{◌≡◌, false, true, length}
use Rattle.scene_model.specs.Lookups.{place_of, place_of_type}
use Rattle.dom_tree.specs.ChildLists.{lists_of}
use Rattle.dom_tree.specs.SiblingPlaces.{AreZeros, Settles}
use Rattle.dom_tree.proofs.sibling_places.SiblingPlaces.settle_all.Given as goal

abbrev pub invariant-loop-index : goal.invariant-loop-index
invariant-loop-index l =
    let lists = lists_of l.children.flat.items l.children.spans.items in
    record {
      tally : AreZeros l.columns.names l.self.tally.items;
      room : length l.self.tally.items ≡ length l.initial.self.tally.items;
      index : Settles l.columns l.from l.index lists place_of l.initial.self.index.items l.self.index.items;
      before : Settles l.columns l.from l.index lists (λ doc. place_of_type doc false) l.initial.self.before.items l.self.before.items;
      after : Settles l.columns l.from l.index lists (λ doc. place_of_type doc true) l.initial.self.after.items l.self.after.items;
    }
