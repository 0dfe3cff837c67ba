use Rattle.std.proofs.Common.{ℕ, List, map}
use Rattle.ancestor_filter.specs.Names.{slot}
use Rattle.ancestor_model.specs.Above.{names_in}
use Rattle.selector_types.specs.ComplexView.{compound_of}
use Rattle.rule_maps.specs.SlotView.{AreFirst}
use Rattle.rule_maps.proofs.SlotLemmas.{SoFar}
use Rattle.rule_maps.proofs.NameLemmas.{names_from}
use Rattle.rule_maps.proofs.ancestor_slots.FoundSlots.push_compound.Given as goal

-- what was found and the names of the tests that are left are those of the compound
abbrev pub invariant-loop-test : goal.invariant-loop-test
invariant-loop-test l =
    (names : List ℕ) → AreFirst l.fn.self names
    → SoFar l.self names (map slot (names_from l.test-items l.test-index)) (map slot (names_in (compound_of l.compound)))
