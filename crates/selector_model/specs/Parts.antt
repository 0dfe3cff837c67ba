-- What a selector is made of, the lists in it among it.
use Rattle.std.specs.Prelude.{Bool, true, false, ◌||◌}
use Rattle.selector_model.specs.Selector.{Combinator, next_sibling, later_sibling, Simple, empty, nth, only}
use Rattle.selector_model.specs.Selector.{Selector, subject, combined, Compound, any, with_test}
use Rattle.selector_model.specs.Selector.{Test, simple, is_some, where_some, not_some, Selectors, no_more, more}

-- whether some simple test passes a test, or some combinator another one
abbrev mutual
  pub has_part : (Simple → Bool) → (Combinator → Bool) → Selector → Bool
  has_part one other (subject compound) = part_within one other compound
  has_part one other (combined compound combinator rest) =
      (part_within one other compound || has_part one other rest) || other combinator

  pub part_within : (Simple → Bool) → (Combinator → Bool) → Compound → Bool
  part_within one other any = false
  part_within one other (with_test test rest) = part_in one other test || part_within one other rest

  pub part_in : (Simple → Bool) → (Combinator → Bool) → Test → Bool
  part_in one other (simple test) = one test
  part_in one other (is_some selectors) = part_among one other selectors
  part_in one other (where_some selectors) = part_among one other selectors
  part_in one other (not_some selectors) = part_among one other selectors

  pub part_among : (Simple → Bool) → (Combinator → Bool) → Selectors → Bool
  part_among one other no_more = false
  part_among one other (more selector rest) = has_part one other selector || part_among one other rest

-- a test of the index of an element among its siblings, or of whether it has children
abbrev pub is_of_place : Simple → Bool
is_of_place empty = true
is_of_place (nth n) = true
is_of_place (only by_type) = true
is_of_place test = false

abbrev pub is_of_siblings : Combinator → Bool
is_of_siblings next_sibling = true
is_of_siblings later_sibling = true
is_of_siblings combinator = false
