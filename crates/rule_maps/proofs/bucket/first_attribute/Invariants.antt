use Rattle.std.proofs.Common.{◌≡◌, map, drop}
use Rattle.rule_map_model.specs.Buckets.{first_attribute}
use Rattle.selector_types.specs.ComplexView.{test_of, tested, compound_of}
use Rattle.rule_maps.proofs.bucket.first_attribute.Given as goal

-- the tests that are left decide
abbrev pub invariant-loop-test : goal.invariant-loop-test
invariant-loop-test l =
    first_attribute (tested (map test_of (drop l.test-index l.test-items))) ≡ first_attribute (compound_of l.compound)
