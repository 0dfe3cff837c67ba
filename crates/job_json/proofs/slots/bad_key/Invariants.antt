use Rattle.std.proofs.Common.{◌≡◌, drop, map}
use Rattle.job_json.specs.Slots.{slot_pair, latest, first_bad_key}
use Rattle.job_json.proofs.slots.bad_key.Given as goal

abbrev pub invariant-loop-place : goal.invariant-loop-place
invariant-loop-place l = first_bad_key (latest (map slot_pair l.slots)) ≡ first_bad_key (latest (map slot_pair (drop l.place l.slots)))
