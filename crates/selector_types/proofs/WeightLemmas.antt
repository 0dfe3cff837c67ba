-- A selector counts no more than its tests.
use Rattle.std.proofs.Common.{◌≡◌, ◌+◌, ◌≤◌, Bool, true, false, cond, arith}
use Rattle.base_model.specs.Specificity.{Specificity, nothing, plus, is_less, greater}
use Rattle.selector_model.specs.Selector.{Simple, type_selector, id_selector, class_selector, attribute_selector, attribute_compares, root, empty, nth, only, in_state, Selector, subject, combined, Compound, any, with_test, Test, simple, is_some, where_some, not_some, Selectors, no_more, more}
use Rattle.selector_model.specs.SpecificityOf.{specificity_of_simple, specificity_of, specificity_of_compound, specificity_of_test, greatest}
use Rattle.selector_types.specs.Counts.{total, test_count, tests_in, tests_of, tests_among}
use Rattle.base_model.proofs.Specificities.{same_counts}

pub plus_assoc : (a b c : Specificity) → plus (plus a b) c ≡ plus a (plus b c)
plus_assoc a b c =
    same_counts _ _ (omega arith) (omega arith) (omega arith)

chosen : (a b : Specificity) (less : Bool) → total (cond less b a) ≤ total a + total b
chosen a b true = omega arith
chosen a b false = omega arith

total_greater : (a b : Specificity) → total (greater a b) ≤ total a + total b
total_greater a b = chosen a b (is_less a b)

total_simple : (test : Simple) → total (specificity_of_simple test) ≤ 1
total_simple (type_selector tag) = omega arith
total_simple (id_selector name) = omega arith
total_simple (class_selector class) = omega arith
total_simple (attribute_selector name) = omega arith
total_simple (attribute_compares name operator value case_counts) = omega arith
total_simple root = omega arith
total_simple empty = omega arith
total_simple (nth n) = omega arith
total_simple (only of_type) = omega arith
total_simple (in_state state) = omega arith

mutual
  pub total_selector : (selector : Selector) → total (specificity_of selector) ≤ test_count selector
  total_selector (subject compound) = total_compound compound
  total_selector (combined compound combinator rest) = omega (arith, total_compound compound, total_selector rest)

  pub total_compound : (compound : Compound) → total (specificity_of_compound compound) ≤ tests_in compound
  total_compound any = omega arith
  total_compound (with_test test rest) = omega (arith, total_test test, total_compound rest)

  pub total_test : (test : Test) → total (specificity_of_test test) ≤ tests_of test
  total_test (simple test) = total_simple test
  total_test (is_some selectors) = omega (arith, total_greatest nothing selectors)
  total_test (where_some selectors) = omega arith
  total_test (not_some selectors) = omega (arith, total_greatest nothing selectors)

  pub total_greatest : (best : Specificity) (selectors : Selectors) → total (greatest best selectors) ≤ total best + tests_among selectors
  total_greatest best no_more = omega arith
  total_greatest best (more selector rest) =
      omega (arith, total_greatest (greater best (specificity_of selector)) rest, total_greater best (specificity_of selector), total_selector selector)
