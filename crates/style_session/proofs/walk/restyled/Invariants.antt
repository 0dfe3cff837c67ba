use Rattle.std.proofs.Common.{◌+◌, take}
use Rattle.scene_model.specs.Lookups.{numbers}
use Rattle.style_session.specs.Lent.{ServesInputs, lent}
use Rattle.style_session.specs.Walking.{IsWalkTo}
use Rattle.style_session.proofs.walk.restyled.Given as goal

abbrev pub invariant-loop-number : goal.invariant-loop-number
invariant-loop-number g l = record {
  to : IsWalkTo (lent l.lists) (take (l.number-index + 1) (numbers l.lists.inputs.now.doc.now.elements)) l.cache l.walk;
  serves : ServesInputs l.lists.inputs.now l.cache;
}
