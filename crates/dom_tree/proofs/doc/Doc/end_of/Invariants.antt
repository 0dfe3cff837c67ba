use Rattle.std.proofs.Common.{◌≡◌}
use Rattle.scene_model.specs.Ancestors.{position_of}
use Rattle.scene_model.specs.Lookups.{IsElement}
use Rattle.dom_tree.proofs.EndLemmas.{end}
use Rattle.dom_tree.proofs.doc.Doc.end_of.Given as goal

abbrev pub invariant-loop-parent : goal.invariant-loop-parent
invariant-loop-parent l = record {
  there : IsElement l.self.elements l.top;
  same : end l.self.elements l.top ≡ end l.self.elements l.x;
}

abbrev pub decreases-loop-parent : goal.decreases-loop-parent
decreases-loop-parent l = position_of l.self.elements l.top
