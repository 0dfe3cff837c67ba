use Rattle.std.proofs.Common.{◌≡◌, map, drop}
use Rattle.selector_model.specs.Key.{first_in, type_in}
use Rattle.selector_types.specs.ComplexView.{test_of, tested, compound_of}
use Rattle.selector_types.proofs.keys.first_type.Given as goal

-- what is left decides
abbrev pub invariant-loop-test : goal.invariant-loop-test
invariant-loop-test l = first_in type_in (tested (map test_of (drop l.test-index l.test-items))) ≡ first_in type_in (compound_of l.compound)
