use Rattle.std.proofs.Common.{◌∙◌}
use Rattle.rule_maps.proofs.SlotLemmas.{slots_are}
use Rattle.rule_maps.proofs.ancestor_slots.FoundSlots.slots.Goals as goal

pub returns : goal.returns
returns c = slots_are c.self.inside.list c.self.inside.count c.self.invariant ∙ c.self.view_is
