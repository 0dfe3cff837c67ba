-- Which names the ancestors of an element must have where a selector holds there.
use Rattle.std.specs.Prelude.{◌≡◌, ℕ, nat_lt, List, [], ◌∷◌, ◌++◌, map, take, Bool, true, ◌||◌}
use Rattle.std.specs.List.{list_any, list_all}
use Rattle.base_model.specs.Text.{Characters, same_text}
use Rattle.scene_model.specs.Element.{Element}
use Rattle.scene_model.specs.Ancestors.{ancestors}
use Rattle.selector_model.specs.Selector.{Combinator, descendant, child, next_sibling, later_sibling}
use Rattle.selector_model.specs.Selector.{type_selector, id_selector, class_selector}
use Rattle.selector_model.specs.Selector.{Selector, subject, combined, Compound, any, with_test, Test, simple}
use Rattle.selector_model.specs.Holds.{passes}
use Rattle.ancestor_model.specs.Counts.{counter_at}

-- the element has this tag, this id or this class (selectors-4, sections 5.1, 6.6 and 6.7)
abbrev pub has_name : List Element → Characters → ℕ → Bool
has_name doc name x =
    passes doc (type_selector name) x || (passes doc (id_selector name) x || passes doc (class_selector name) x)

-- some ancestor of the element has it
abbrev pub HasAbove : List Element → ℕ → Characters → Type 0
HasAbove doc x name = list_any (has_name doc name) (ancestors doc x) ≡ true

-- names that tell each name that an element has
abbrev pub NameAll : List Element → (ℕ → List Characters) → Type 0
NameAll doc names_of =
    (x : ℕ) (name : Characters) → has_name doc name x ≡ true → list_any (same_text name) (names_of x) ≡ true

-- the name that a test asks for
abbrev pub names_of_test : Test → List Characters
names_of_test (simple (type_selector tag)) = tag ∷ []
names_of_test (simple (id_selector name)) = name ∷ []
names_of_test (simple (class_selector class)) = class ∷ []
names_of_test test = []

-- the names that a compound asks for, but those in nested lists
abbrev pub names_in : Compound → List Characters
names_in any = []
names_in (with_test test rest) = names_of_test test ++ names_in rest

abbrev pub subject_of : Selector → Compound
subject_of (subject compound) = compound
subject_of (combined compound combinator rest) = compound

-- the names of what is on the left of a combinator, where that is an ancestor (selectors-4, sections 15.1 and 15.2)
abbrev pub names_left : Combinator → Selector → List Characters
names_left descendant rest = names_in (subject_of rest)
names_left child rest = names_in (subject_of rest)
names_left next_sibling rest = []
names_left later_sibling rest = []

-- the names of each compound with a child or descendant combinator directly on its right, from the right
abbrev pub ancestor_names : Selector → List Characters
ancestor_names (subject compound) = []
ancestor_names (combined compound combinator rest) = names_left combinator rest ++ ancestor_names rest

-- how many of a selector's ancestor names are looked up
abbrev pub looked_up : ℕ
looked_up = 4

abbrev pub ancestor_slots : (Characters → ℕ) → Selector → List ℕ
ancestor_slots slot selector = map slot (take looked_up (ancestor_names selector))

-- the filter's answer for some slots: none of them is of a counter at 0
abbrev pub all_counted : List ℕ → List ℕ → Bool
all_counted counters slots = list_all (λ s. nat_lt 0 (counter_at counters s)) slots
