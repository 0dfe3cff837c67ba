-- Where a selector holds (selectors-4, sections 3 and 4), as a test that computes.
use Rattle.std.specs.Prelude.{ℕ, ◌+◌, ◌-◌, ◌==◌, List, length, slice_get, codes}
use Rattle.std.specs.Prelude.{Bool, true, false, not, ◌&&◌, ◌||◌, if◌then◌else◌}
use Rattle.std.specs.Prelude.{Option, is_none, is_some as is_there, option_to_list}
use Rattle.std.specs.List.{list_any}
use Rattle.std.specs.Option.{option_map_or}
use Rattle.base_model.specs.Text.{Characters, same_text, is_empty_text}
use Rattle.scene_model.specs.Element.{Element}
use Rattle.scene_model.specs.Lookups.{numbers, parent_of, children, siblings, left_of, tag_of, same_type, place_by}
use Rattle.scene_model.specs.Lookups.{attribute_of, has_class, state_of}
use Rattle.scene_model.specs.Ancestors.{ancestors}
use Rattle.selector_model.specs.Comparisons.{folded, compared, is_nth}
use Rattle.selector_model.specs.Selector.{Combinator, descendant, child, next_sibling, later_sibling}
use Rattle.selector_model.specs.Selector.{Simple, type_selector, id_selector, class_selector, attribute_selector}
use Rattle.selector_model.specs.Selector.{attribute_compares, root, empty, nth, only, in_state}
use Rattle.selector_model.specs.Selector.{Selector, subject, combined, Compound, any, with_test}
use Rattle.selector_model.specs.Selector.{Test, simple, is_some, where_some, not_some, Selectors, no_more, more}

-- the last of a list that ends at an element, so the nearest to it
abbrev pub nearest : List ℕ → Option ℕ
nearest xs = slice_get xs (length xs - 1)

-- what is in the relation of a combinator to the left of x
abbrev pub leftwards : List Element → Combinator → ℕ → List ℕ
leftwards doc descendant x = ancestors doc x
leftwards doc child x = option_to_list (parent_of doc x)
leftwards doc next_sibling x = option_to_list (nearest (left_of x (siblings doc x)))
leftwards doc later_sibling x = left_of x (siblings doc x)

-- y is in that relation to x
abbrev pub is_in_relation : List Element → Combinator → ℕ → ℕ → Bool
is_in_relation doc combinator y x = list_any (λ z. z == y) (leftwards doc combinator x)

-- the siblings that count for an index: all, or those of the same type
abbrev pub counts : List Element → Bool → ℕ → ℕ → Bool
counts doc by_type x y = if by_type then same_type doc x y else true

-- the index from 1, from the first or from the last
abbrev pub index_by : List Element → Bool → Bool → ℕ → ℕ
index_by doc from_last by_type x = place_by doc from_last (counts doc by_type x) x + 1

-- an id that is empty is none
abbrev pub is_id : Characters → Characters → Bool
is_id name value = not (is_empty_text value) && same_text value name

abbrev pub passes : List Element → Simple → ℕ → Bool
passes doc (type_selector tag) x = same_text (tag_of doc x) tag
passes doc (id_selector name) x = option_map_or (is_id name) (attribute_of doc x (codes "id")) false
passes doc (class_selector class) x = has_class doc x class
passes doc (attribute_selector name) x = is_there (attribute_of doc x name)
passes doc (attribute_compares name operator part case_counts) x =
    option_map_or (λ value. compared operator (folded case_counts value) (folded case_counts part))
    (attribute_of doc x name) false
passes doc root x = is_none (parent_of doc x)
passes doc empty x = length (children doc x) == 0
passes doc (nth n) x = is_nth n.formula (index_by doc n.from_last n.of_type x)
passes doc (only by_type) x = (index_by doc false by_type x == 1) && (index_by doc true by_type x == 1)
passes doc (in_state state) x = state_of doc x state

-- A combinator says that there is an element of the document which is in its relation, and at which the rest holds.
abbrev mutual
  pub holds : List Element → Selector → ℕ → Bool
  holds doc (subject compound) x = meets doc compound x
  holds doc (combined compound combinator rest) x =
      meets doc compound x
      && list_any (λ y. is_in_relation doc combinator y x && holds doc rest y) (numbers doc)

  pub meets : List Element → Compound → ℕ → Bool
  meets doc any x = true
  meets doc (with_test test rest) x = test_holds doc test x && meets doc rest x

  pub test_holds : List Element → Test → ℕ → Bool
  test_holds doc (simple test) x = passes doc test x
  test_holds doc (is_some selectors) x = holds_some doc selectors x
  test_holds doc (where_some selectors) x = holds_some doc selectors x
  test_holds doc (not_some selectors) x = not (holds_some doc selectors x)

  pub holds_some : List Element → Selectors → ℕ → Bool
  holds_some doc no_more x = false
  holds_some doc (more selector rest) x = holds doc selector x || holds_some doc rest x
