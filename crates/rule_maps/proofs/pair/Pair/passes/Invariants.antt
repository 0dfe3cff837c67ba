use Rattle.std.proofs.Common.{◌≡◌, drop}
use Rattle.ancestor_model.specs.Above.{all_counted}
use Rattle.rule_maps.specs.SlotView.{used_slots}
use Rattle.rule_maps.proofs.pair.Pair.passes.Given as goal

-- the slots that are left decide
abbrev pub invariant-loop-slot : goal.invariant-loop-slot
invariant-loop-slot l = all_counted l.filter (used_slots (drop l.slot-index l.slot-items)) ≡ all_counted l.filter (used_slots l.slot-items)
