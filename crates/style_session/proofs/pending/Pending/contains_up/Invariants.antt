use Rattle.std.proofs.Common.{◌≡◌, ◌∷◌}
use Rattle.std.specs.List.{list_any}
use Rattle.scene_model.specs.Ancestors.{ancestors, position_of}
use Rattle.scene_model.specs.Lookups.{IsElement}
use Rattle.style_session.specs.PendingView.{is_pending_in}
use Rattle.style_session.proofs.pending.Pending.contains_up.Given as goal

abbrev pub invariant-loop-at : goal.invariant-loop-at
invariant-loop-at l = record {
  there : IsElement l.doc.elements l.at;
  same : list_any (is_pending_in l.self) (l.fn.x ∷ ancestors l.doc.elements l.fn.x)
      ≡ list_any (is_pending_in l.self) (l.at ∷ ancestors l.doc.elements l.at);
}

abbrev pub decreases-loop-at : goal.decreases-loop-at
decreases-loop-at l = position_of l.doc.elements l.at
