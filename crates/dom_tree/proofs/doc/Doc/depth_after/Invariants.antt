use Rattle.std.proofs.Common.{◌≡◌, true}
use Rattle.scene_model.specs.Ancestors.{depth_of}
use Rattle.scene_model.specs.Lookups.{IsElement}
use Rattle.change_model.specs.Sound.{is_below}
use Rattle.dom_tree.proofs.doc.Doc.depth_after.Given as goal

abbrev pub invariant-loop-top : goal.invariant-loop-top
invariant-loop-top l = record {
  there : IsElement l.self.elements l.top;
  below : is_below l.self.elements l.parent l.top ≡ true;
  depth : l.depth ≡ depth_of l.self.elements l.top;
}

abbrev pub decreases-loop-top : goal.decreases-loop-top
decreases-loop-top l = l.depth
