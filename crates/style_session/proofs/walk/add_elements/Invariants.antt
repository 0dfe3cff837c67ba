use Rattle.std.proofs.Common.{◌≡◌, ◌||◌, ℕ, take}
use Rattle.scene_model.specs.Lookups.{IsElement}
use Rattle.scene_model.specs.Numbers.{is_in}
use Rattle.style_session.proofs.walk.add_elements.Given as goal

abbrev pub invariant-loop-x : goal.invariant-loop-x
invariant-loop-x l = record {
  each : (y : ℕ) → IsElement l.doc.elements y → is_in y l.due.items ≡ (is_in y l.initial.due.items || is_in y (take l.x-index l.numbers));
  room : l.due.room ≡ l.initial.due.room;
}
