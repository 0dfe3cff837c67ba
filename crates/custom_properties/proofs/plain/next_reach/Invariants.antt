use Rattle.std.proofs.Common.{take}
use Rattle.custom_properties.specs.Plain.{AreNext}
use Rattle.custom_properties.proofs.plain.next_reach.Given as goal

abbrev pub invariant-loop-edge : goal.invariant-loop-edge
invariant-loop-edge l = AreNext (take l.edge-index l.edges) l.to l.reach l.next.items
