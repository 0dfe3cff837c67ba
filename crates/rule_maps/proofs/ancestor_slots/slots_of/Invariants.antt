use Rattle.std.proofs.Common.{[], map}
use Rattle.ancestor_filter.specs.Names.{slot}
use Rattle.ancestor_model.specs.Above.{ancestor_names}
use Rattle.selector_types.specs.ComplexView.{complex_of}
use Rattle.selector_types.specs.View.{selector_of}
use Rattle.rule_maps.proofs.SlotLemmas.{SoFar}
use Rattle.rule_maps.proofs.ancestor_slots.slots_of.Given as goal

-- what was found and the names that are left are those of the selector
abbrev pub invariant-loop-at : goal.invariant-loop-at
invariant-loop-at l =
    SoFar l.found [] (map slot (ancestor_names (complex_of l.at))) (map slot (ancestor_names (selector_of l.selector)))
