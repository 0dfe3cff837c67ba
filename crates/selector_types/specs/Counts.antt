-- How many tests a selector has, which bounds how specific it is.
use Rattle.std.specs.Prelude.{ℕ, ◌+◌}
use Rattle.base_model.specs.Specificity.{Specificity}
use Rattle.selector_model.specs.Selector.{Selector, subject, combined, Compound, any, with_test}
use Rattle.selector_model.specs.Selector.{Test, simple, is_some, where_some, not_some, Selectors, no_more, more}

-- all counts together
abbrev pub total : Specificity → ℕ
total s = s.ids + s.classes + s.types

-- the simple tests, those of nested lists among them
abbrev mutual
  pub test_count : Selector → ℕ
  test_count (subject compound) = tests_in compound
  test_count (combined compound combinator rest) = tests_in compound + test_count rest

  pub tests_in : Compound → ℕ
  tests_in any = 0
  tests_in (with_test test rest) = tests_of test + tests_in rest

  pub tests_of : Test → ℕ
  tests_of (simple test) = 1
  tests_of (is_some selectors) = tests_among selectors
  tests_of (where_some selectors) = tests_among selectors
  tests_of (not_some selectors) = tests_among selectors

  pub tests_among : Selectors → ℕ
  tests_among no_more = 0
  tests_among (more selector rest) = test_count selector + tests_among rest
