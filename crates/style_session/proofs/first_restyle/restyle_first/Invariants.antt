use Rattle.std.proofs.Common.{◌+◌, take}
use Rattle.scene_model.specs.Lookups.{numbers}
use Rattle.style_session.specs.FirstWalking.{IsFirstWalkTo}
use Rattle.style_session.specs.Lent.{ServesInputs, scene_lent}
use Rattle.style_session.proofs.first_restyle.restyle_first.Given as goal

abbrev pub invariant-loop-number : goal.invariant-loop-number
invariant-loop-number g l = record {
  to : IsFirstWalkTo (scene_lent l.inputs) (take (l.number-index + 1) (numbers l.inputs.doc.now.elements)) l.cache l.walk;
  serves : ServesInputs l.inputs l.cache;
}
