use Rattle.std.proofs.Common.{◌≡◌}
use Rattle.scene_model.specs.Ancestors.{position_of}
use Rattle.scene_model.specs.Lookups.{IsElement}
use Rattle.change_model.specs.Sound.{is_below}
use Rattle.dom_tree.proofs.doc.Doc.is_below.Given as goal

abbrev pub invariant-loop-at : goal.invariant-loop-at
invariant-loop-at l = record {
  there : IsElement l.self.elements l.at;
  same : is_below l.self.elements l.top l.at ≡ is_below l.self.elements l.top l.x;
}

abbrev pub decreases-loop-at : goal.decreases-loop-at
decreases-loop-at l = position_of l.self.elements l.at
