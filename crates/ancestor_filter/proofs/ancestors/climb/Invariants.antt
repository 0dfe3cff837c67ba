use Rattle.std.proofs.Common.{◌≡◌, ◌++◌}
use Rattle.scene_model.specs.Lookups.{IsElement}
use Rattle.scene_model.specs.Ancestors.{ancestors, position_of}
use Rattle.ancestor_filter.proofs.ancestors.climb.Given as goal

-- those that were appended, and the ancestors of the last
abbrev pub invariant-loop-p : goal.invariant-loop-p
invariant-loop-p l = record {
  there : IsElement l.doc.elements l.at;
  joined : l.path.items ++ ancestors l.doc.elements l.at ≡ l.fn.path.items ++ ancestors l.doc.elements l.x;
}

abbrev pub decreases-loop-p : goal.decreases-loop-p
decreases-loop-p l = position_of l.doc.elements l.at
