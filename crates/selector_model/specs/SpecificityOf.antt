-- How specific a selector is (selectors-4, section 17).
use Rattle.base_model.specs.Specificity.{Specificity, nothing, one_id, one_class, one_type, plus, greater}
use Rattle.selector_model.specs.Selector.{Simple, type_selector, id_selector}
use Rattle.selector_model.specs.Selector.{Selector, subject, combined, Compound, any, with_test}
use Rattle.selector_model.specs.Selector.{Test, simple, is_some, where_some, not_some, Selectors, no_more, more}

abbrev pub specificity_of_simple : Simple → Specificity
specificity_of_simple (type_selector tag) = one_type
specificity_of_simple (id_selector name) = one_id
specificity_of_simple test = one_class

-- the sum over the tests; `:is` and `:not` count as their most specific member, `:where` as nothing
abbrev mutual
  pub specificity_of : Selector → Specificity
  specificity_of (subject compound) = specificity_of_compound compound
  specificity_of (combined compound combinator rest) =
      plus (specificity_of_compound compound) (specificity_of rest)

  pub specificity_of_compound : Compound → Specificity
  specificity_of_compound any = nothing
  specificity_of_compound (with_test test rest) = plus (specificity_of_test test) (specificity_of_compound rest)

  pub specificity_of_test : Test → Specificity
  specificity_of_test (simple test) = specificity_of_simple test
  specificity_of_test (is_some selectors) = greatest nothing selectors
  specificity_of_test (where_some selectors) = nothing
  specificity_of_test (not_some selectors) = greatest nothing selectors

  pub greatest : Specificity → Selectors → Specificity
  greatest best no_more = best
  greatest best (more selector rest) = greatest (greater best (specificity_of selector)) rest
