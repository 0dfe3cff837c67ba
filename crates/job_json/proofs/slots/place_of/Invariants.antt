use Rattle.std.proofs.Common.{◌≡◌, ◌++◌, take, drop}
use Rattle.job_json.specs.declared.slots.Slot.{Slot}
use Rattle.job_json.specs.Slots.{put_slot}
use Rattle.job_json.proofs.slots.place_of.Given as goal

abbrev pub invariant-loop-place : goal.invariant-loop-place
invariant-loop-place l = (slot : Slot) → slot.name.now ≡ l.name → put_slot slot l.slots ≡ take l.place l.slots ++ put_slot slot (drop l.place l.slots)
