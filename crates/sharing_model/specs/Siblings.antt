-- Whether a selector, at any depth, asks for more than an element, its states and its ancestors.
use Rattle.std.specs.Prelude.{List, Bool}
use Rattle.std.specs.List.{list_any}
use Rattle.selector_model.specs.Selector.{Selector}
use Rattle.selector_model.specs.Parts.{has_part, is_of_place, is_of_siblings}

-- a test of its index among its siblings, `:empty` or a sibling combinator is in it (selectors-4, sections 14 and 15)
abbrev pub asks_for_siblings : Selector → Bool
asks_for_siblings selector = has_part is_of_place is_of_siblings selector

-- of each rule its selectors: one of them asks for siblings
abbrev pub ask_for_siblings : List (List Selector) → Bool
ask_for_siblings rules = list_any (list_any asks_for_siblings) rules
