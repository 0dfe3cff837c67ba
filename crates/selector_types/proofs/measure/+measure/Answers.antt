use Rattle.std.proofs.Common.{◌+◌, map, ap}
use Rattle.std.proofs.lemmas.List.{drop_all}
use Rattle.selector_types.specs.declared.complex.Test.TheViews.{out-Complex, out-Left}
use Rattle.selector_types.specs.ComplexView.{combinator_of, complex_of, complexes_of, compound_of, test_of, tested}
use Rattle.selector_types.proofs.Layers.{complex_out-some, tests_off}
use Rattle.selector_types.proofs.MeasureLemmas.{greatest_all, greatest_first, of_combined, sum_all, sum_first, sum_more}
use Rattle.selector_types.proofs.measure.+measure.Goals as goal

pub of_complex-returns-in-Some : goal.of_complex-returns-in-Some
of_complex-returns-in-Some t c =
    let complex = c.args.complex.now in
    let left = out-Left c.in-Some.left.value in
    of_combined (complex_of complex) (complex_of left.rest) (compound_of (out-Complex complex).subject) (combinator_of left.combinator) _ _ _ _ _ (complex_out-some complex c.in-Some.left c.in-Some.is) c.of_compound.ensures c.with_compound-subject.ensures (rw c.deref.ensures at c.of_complex.ensures) c.plus.ensures (rw c.deref-in-Some.ensures at c.with_combinator.ensures)

pub of_tests-loop-test-init : goal.of_tests-loop-test-init
of_tests-loop-test-init t c = sum_first (tested (map test_of c.args.tests.now)) _ c.empty-sum.ensures

pub of_tests-loop-test-preserved : goal.of_tests-loop-test-preserved
of_tests-loop-test-preserved t c =
    let items = c.args.tests.now in
    let i = c.loop-test.test-index in
    sum_more _ _ _ (test_of c.test-item.result) c.loop-test.sum _ _ (tests_off items i c.test-item.result c.loop-test-test.true c.test-item.is) c.of_test.ensures c.plus-sum.ensures c.loop-test.invariant

pub of_tests-returns : goal.of_tests-returns
of_tests-returns t c =
    let items = c.args.tests.now in
    let i = c.loop-test.test-index in
    sum_all _ _ _ (ap (λ l. tested (map test_of l)) (drop_all i items c.loop-test-test.false)) c.loop-test.invariant

pub of_list-loop-complex-init : goal.of_list-loop-complex-init
of_list-loop-complex-init t c = greatest_first (complexes_of c.args.list.now) _ c.empty-sum.ensures

pub of_list-returns : goal.of_list-returns
of_list-returns t c =
    let items = c.args.list.now in
    let i = c.loop-complex.complex-index in
    greatest_all _ _ _ (ap complexes_of (drop_all i items c.loop-complex-test.false)) c.loop-complex.invariant
