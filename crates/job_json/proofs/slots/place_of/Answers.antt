use Rattle.std.proofs.Common.{arith}
use Rattle.job_json.proofs.PlaceSteps.{place_here}
use Rattle.job_json.proofs.slots.place_of.Goals as goal

pub returns-in-Equal : goal.returns-in-Equal
returns-in-Equal c = (omega arith, λ slot same. place_here c.args.slots.now c.loop-place.place _ slot c.args.name.now same c.in-Equal.ensures (omega arith) (c.loop-place.invariant slot same))
