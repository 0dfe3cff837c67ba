-- What one walk of a selector finds.
use Rattle.std.specs.Prelude.{◌≡◌, ℕ, ◌+◌, ◌-◌, ◌<◌, ◌^◌, min, Bool, ◌||◌}
use Rattle.base_model.specs.Specificity.{Specificity, nothing}
use Rattle.selector_model.specs.Compounds.{compounds_among, compounds_in, compounds_of, compounds_within}
use Rattle.selector_model.specs.Parts.{has_part, is_of_place, is_of_siblings, part_among, part_in, part_within}
use Rattle.selector_model.specs.Selector.{Selector, Compound, Test, Selectors}
use Rattle.selector_model.specs.SpecificityOf.{greatest, specificity_of, specificity_of_compound, specificity_of_test}
use Rattle.selector_types.specs.Counts.{test_count, tests_among, tests_in, tests_of}
use Rattle.selector_types.specs.declared.measure.Measure.{Measure}

-- the greatest number of 64 bits
abbrev pub most : ℕ
most = 2 ^ 64 - 1

-- a count as far as it can be kept
abbrev pub capped : ℕ → ℕ
capped n = min n most

abbrev pub capped_plus : Specificity → Specificity → Specificity
capped_plus a b =
    record {
      ids = capped (a.ids + b.ids);
      classes = capped (a.classes + b.classes);
      types = capped (a.types + b.types);
    }

-- two that were found, together
abbrev pub both : Measure → Measure → Measure
both a b =
    record {
      tests = capped (a.tests + b.tests);
      compounds = capped (a.compounds + b.compounds);
      weight = capped_plus a.weight b.weight;
      by_place = a.by_place || b.by_place;
    }

-- What is found are these counts, this weight, unless the tests are too many to count, and whether places matter.
pub record Measures (found : Measure) (tests compounds : ℕ) (weight : Specificity) (by_place : Bool) : Type 0 where
  pub tests_are : found.tests ≡ capped tests
  pub compounds_are : found.compounds ≡ capped compounds
  pub weight_is : tests < most → found.weight ≡ weight
  pub by_place_is : found.by_place ≡ by_place

abbrev pub IsOfSelector : Measure → Selector → Type 0
IsOfSelector found selector =
    Measures found (test_count selector) (compounds_in selector) (specificity_of selector)
    (has_part is_of_place is_of_siblings selector)

abbrev pub IsOfCompound : Measure → Compound → Type 0
IsOfCompound found compound =
    Measures found (tests_in compound) (compounds_within compound) (specificity_of_compound compound)
    (part_within is_of_place is_of_siblings compound)

abbrev pub IsOfTest : Measure → Test → Type 0
IsOfTest found test =
    Measures found (tests_of test) (compounds_of test) (specificity_of_test test)
    (part_in is_of_place is_of_siblings test)

abbrev pub IsOfList : Measure → Selectors → Type 0
IsOfList found selectors =
    Measures found (tests_among selectors) (compounds_among selectors) (greatest nothing selectors)
    (part_among is_of_place is_of_siblings selectors)
