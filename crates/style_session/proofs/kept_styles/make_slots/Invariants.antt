use Rattle.std.proofs.Common.{◌≡◌, ◌+◌, ◌≤◌, ℕ, length}
use Rattle.std.specs.Vec.{vec_capacity}
use Rattle.style_session.specs.KeptView.{slot_at}
use Rattle.style_session.proofs.kept_styles.make_slots.Given as goal

abbrev pub invariant-loop : goal.invariant-loop
invariant-loop l = record {
  places : length l.slots.items ≡ l.there + l.counter;
  styles : (x : ℕ) → slot_at l.slots.items x ≡ slot_at l.fn.slots.items x;
  room : l.there + l.more ≤ vec_capacity l.slots;
}
