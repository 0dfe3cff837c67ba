-- How many compounds a selector has, those of the lists in it among them.
use Rattle.std.specs.Prelude.{ℕ, ◌+◌}
use Rattle.selector_model.specs.Selector.{Selector, subject, combined, Compound, any, with_test}
use Rattle.selector_model.specs.Selector.{Test, simple, is_some, where_some, not_some, Selectors, no_more, more}

abbrev mutual
  pub compounds_in : Selector → ℕ
  compounds_in (subject compound) = 1 + compounds_within compound
  compounds_in (combined compound combinator rest) = 1 + compounds_within compound + compounds_in rest

  pub compounds_within : Compound → ℕ
  compounds_within any = 0
  compounds_within (with_test test rest) = compounds_of test + compounds_within rest

  pub compounds_of : Test → ℕ
  compounds_of (simple test) = 0
  compounds_of (is_some selectors) = compounds_among selectors
  compounds_of (where_some selectors) = compounds_among selectors
  compounds_of (not_some selectors) = compounds_among selectors

  pub compounds_among : Selectors → ℕ
  compounds_among no_more = 0
  compounds_among (more selector rest) = compounds_in selector + compounds_among rest

-- how many a selector may have
abbrev pub compound_limit : ℕ
compound_limit = 64
