use Rattle.std.proofs.Common.{◌≡◌, ℕ, List, ◌++◌, length, map, take, drop}
use Rattle.std.specs.List.{list_any}
use Rattle.scene_model.specs.Lookups.{IsElement}
use Rattle.scene_model.specs.Ancestors.{ancestors, position_of}
use Rattle.selector_model.specs.Holds.{holds, holds_some, meets}
use Rattle.selector_types.specs.ComplexView.{complex_of, complexes_of, compound_of, test_of, tested}
use Rattle.selector_match.specs.Results.{Tells, before}
use Rattle.selector_match.proofs.matching.+matches.Given as goal

-- what is above decides
abbrev pub invariant-at_ancestors-loop-parent : goal.invariant-at_ancestors-loop-parent
invariant-at_ancestors-loop-parent l = record {
  element : IsElement l.doc.elements l.at;
  left : list_any (holds l.doc.elements (complex_of l.rest)) (ancestors l.doc.elements l.at) ≡ list_any (holds l.doc.elements (complex_of l.rest)) (ancestors l.doc.elements l.x);
}

abbrev pub decreases-at_ancestors-loop-parent : goal.decreases-at_ancestors-loop-parent
decreases-at_ancestors-loop-parent l = position_of l.doc.elements l.at

-- what is left of the siblings before decides
abbrev pub invariant-at_siblings-loop-nearest : goal.invariant-at_siblings-loop-nearest
invariant-at_siblings-loop-nearest l = record {
  front : (rest : List ℕ) × (before l.doc.elements l.x ≡ l.before ++ rest);
  left : list_any (holds l.doc.elements (complex_of l.rest)) l.before ≡ list_any (holds l.doc.elements (complex_of l.rest)) (before l.doc.elements l.x);
}

abbrev pub decreases-at_siblings-loop-nearest : goal.decreases-at_siblings-loop-nearest
decreases-at_siblings-loop-nearest l = length l.before

-- what is told of those so far
abbrev pub invariant-holds_some-loop-complex : goal.invariant-holds_some-loop-complex
invariant-holds_some-loop-complex l =
    Tells l.doc.elements (holds_some l.doc.elements (complexes_of (take l.complex-index l.list))) l.x l.told

-- what is left decides
abbrev pub invariant-meets-loop-test : goal.invariant-meets-loop-test
invariant-meets-loop-test l = record {
  whole : compound_of l.compound ≡ tested (map test_of l.test-items);
  left : meets l.doc.elements (tested (map test_of (drop l.test-index l.test-items))) l.x ≡ meets l.doc.elements (compound_of l.compound) l.x;
}
