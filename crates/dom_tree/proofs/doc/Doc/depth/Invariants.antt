use Rattle.std.proofs.Common.{◌≡◌, ◌+◌}
use Rattle.scene_model.specs.Ancestors.{depth_of, position_of}
use Rattle.scene_model.specs.Lookups.{IsElement}
use Rattle.dom_tree.proofs.doc.Doc.depth.Given as goal

abbrev pub invariant-loop-parent : goal.invariant-loop-parent
invariant-loop-parent l = record {
  there : IsElement l.self.elements l.top;
  same : l.depth + depth_of l.self.elements l.top ≡ depth_of l.self.elements l.x + 1;
}

abbrev pub decreases-loop-parent : goal.decreases-loop-parent
decreases-loop-parent l = position_of l.self.elements l.top
