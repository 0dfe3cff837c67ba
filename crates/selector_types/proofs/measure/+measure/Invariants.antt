use Rattle.std.proofs.Common.{map, drop}
use Rattle.selector_types.specs.ComplexView.{complexes_of, test_of, tested}
use Rattle.selector_types.proofs.MeasureLemmas.{IsGreatest, IsSum}
use Rattle.selector_types.proofs.measure.+measure.Given as goal

-- what was found so far, and what is left, are the whole
abbrev pub invariant-of_tests-loop-test : goal.invariant-of_tests-loop-test
invariant-of_tests-loop-test l =
    IsSum l.sum (tested (map test_of (drop l.test-index l.tests))) (tested (map test_of l.tests))

abbrev pub invariant-of_list-loop-complex : goal.invariant-of_list-loop-complex
invariant-of_list-loop-complex l =
    IsGreatest l.sum (complexes_of (drop l.complex-index l.list)) (complexes_of l.list)
