-- What is marked on small documents: elements that are marked for nothing, and dependencies that are each needed.
use Rattle.std.proofs.Common.{◌≡◌, ℕ, Bool, true, false, List, [], ◌∷◌, map, filter, Some, None, refl}
use Rattle.std.specs.Prelude.{codes, pos}
use Rattle.base_model.specs.Text.{Characters}
use Rattle.scene_model.specs.Element.{Element, hover_state, focus_state}
use Rattle.scene_model.specs.Ancestors.{ancestors}
use Rattle.selector_model.specs.Selector.{descendant, child, next_sibling, later_sibling}
use Rattle.selector_model.specs.Selector.{equals, type_selector, id_selector, class_selector, attribute_selector, attribute_compares, empty, nth, only, in_state}
use Rattle.selector_model.specs.Selector.{Selector, subject, combined, Compound, any, with_test, simple, is_some, where_some, not_some, no_more, more}
use Rattle.selector_model.specs.Holds.{holds}
use Rattle.edit_model.proofs.ExampleCases.{quiet, node, class_of, one, class_a}
use Rattle.edit_model.specs.Dependencies.{dependencies}
use Rattle.edit_model.specs.Marked.{is_hit, is_marked}
use Rattle.selector_model.proofs.AttributeCases.{get_pairs}

abbrev p : Compound
p = one (type_selector (codes "p"))

abbrev i : Compound
i = one (type_selector (codes "i"))

-- a selector, an element, whether each of the selector's dependencies hits it, and whether the selector holds there before and after
abbrev Needed : List Element → List Element → Selector → ℕ → List Bool → Bool → Bool → Type 0
Needed before after selector x hits was is =
    (map (λ d. is_hit before after d x) (dependencies selector) ≡ hits)
    × ((holds before selector x ∷ holds after selector x ∷ []) ≡ was ∷ is ∷ [])
    × (is_marked before after (selector ∷ []) x ≡ true)

-- a root, and in it a p, and a p in that
abbrev three : List (Characters × Characters) → List (Characters × Characters) → List (Characters × Characters) → List Element
three r s t = node 1 None (codes "html") r ∷ node 2 (Some 1) (codes "p") s ∷ node 3 (Some 2) (codes "p") t ∷ []

by_attribute : Needed (three [] [] []) (three [] [] ((codes "title", codes "t") ∷ [])) (subject (one (attribute_selector (codes "title")))) 3 (true ∷ []) false true
by_attribute = (simp get_pairs, simp get_pairs, simp get_pairs)

-- the key is borne before alone
by_id : Needed (three [] [] ((codes "id", codes "n") ∷ [])) (three [] [] ((codes "id", []) ∷ [])) (subject (one (id_selector (codes "n")))) 3 (true ∷ []) true false
by_id = (simp get_pairs, simp get_pairs, simp get_pairs)

by_class : Needed (three [] [] []) (three [] [] (class_of (codes "b a"))) (subject class_a) 3 (true ∷ []) false true
by_class = (simp get_pairs, simp get_pairs, simp get_pairs)

by_child : Needed (three [] (class_of (codes "a")) []) (three [] [] []) (combined p child (subject class_a)) 3 (false ∷ true ∷ []) true false
by_child = (simp get_pairs, simp get_pairs, simp get_pairs)

by_descendant : Needed (three (class_of (codes "a")) [] []) (three [] [] []) (combined p descendant (subject class_a)) 3 (false ∷ true ∷ []) true false
unfolding ancestors
by_descendant = (simp get_pairs, simp get_pairs, simp get_pairs)

-- a root, and elements in it
abbrev row : Element → List Element → List Element
row first others = node 1 None (codes "html") [] ∷ first ∷ others

abbrev inside : ℕ → Characters → List (Characters × Characters) → Element
inside number tag pairs = node number (Some 1) tag pairs

by_next : Needed (row (inside 2 (codes "q") (class_of (codes "a"))) (inside 3 (codes "p") [] ∷ [])) (row (inside 2 (codes "q") []) (inside 3 (codes "p") [] ∷ [])) (combined p next_sibling (subject class_a)) 3 (false ∷ false ∷ true ∷ []) true false
by_next = (simp get_pairs, simp get_pairs, simp get_pairs)

by_later : Needed (row (inside 2 (codes "q") (class_of (codes "a"))) (inside 4 (codes "q") [] ∷ inside 3 (codes "p") [] ∷ [])) (row (inside 2 (codes "q") []) (inside 4 (codes "q") [] ∷ inside 3 (codes "p") [] ∷ [])) (combined p later_sibling (subject class_a)) 3 (false ∷ false ∷ true ∷ []) true false
by_later = (simp get_pairs, simp get_pairs, simp get_pairs)

-- each of the list's selectors marks, both ways
by_list : Needed (three [] [] []) (three [] [] (class_of (codes "b"))) (subject (with_test (not_some (more (subject class_a) (more (subject (one (class_selector (codes "b")))) no_more))) p)) 3 (false ∷ true ∷ false ∷ []) true false
by_list = (simp get_pairs, simp get_pairs, simp get_pairs)

by_list_above : Needed (three (class_of (codes "a")) [] []) (three [] [] []) (subject (with_test (not_some (more (combined any descendant (subject class_a)) no_more)) p)) 3 (true ∷ false ∷ []) false true
unfolding ancestors
by_list_above = (simp get_pairs, simp get_pairs, simp get_pairs)

by_state : Needed (three [] [] []) (node 1 None (codes "html") [] ∷ node 2 (Some 1) (codes "p") [] ∷ record (node 3 (Some 2) (codes "p") []) { states = record quiet { hover = true } } ∷ []) (subject (with_test (simple (in_state hover_state)) p)) 3 (true ∷ false ∷ []) false true
by_state = (refl, refl, simp get_pairs)

-- child lists

by_empty : Needed (three [] [] []) (node 1 None (codes "html") [] ∷ node 2 (Some 1) (codes "p") [] ∷ node 3 (Some 2) (codes "p") [] ∷ node 4 (Some 3) (codes "i") [] ∷ []) (subject (with_test (simple empty) p)) 3 (true ∷ false ∷ []) true false
by_empty = (refl, refl, simp get_pairs)

by_place : Needed (row (inside 2 (codes "q") []) (inside 3 (codes "p") [] ∷ [])) (row (inside 3 (codes "p") []) []) (subject (with_test (simple (nth record {
  formula = record { a = pos 0; b = pos 2 };
  from_last = false;
  of_type = false;
})) p)) 3 (true ∷ false ∷ []) true false
by_place = (refl, refl, simp get_pairs)

by_neighbour : Needed (row (inside 2 (codes "q") []) (inside 3 (codes "p") [] ∷ [])) (row (inside 2 (codes "q") []) (inside 4 (codes "i") [] ∷ inside 3 (codes "p") [] ∷ [])) (combined p next_sibling (subject (one (type_selector (codes "q"))))) 3 (false ∷ true ∷ false ∷ []) true false
by_neighbour = (refl, refl, simp get_pairs)

by_earlier : Needed (row (inside 3 (codes "p") []) []) (row (inside 2 (codes "q") []) (inside 3 (codes "p") [] ∷ [])) (combined p later_sibling (subject (one (type_selector (codes "q"))))) 3 (false ∷ true ∷ false ∷ []) false true
by_earlier = (refl, refl, simp get_pairs)

-- the same kinds in other forms

by_compared : Needed (three [] [] (class_of (codes "a"))) (three [] [] (class_of (codes "a  a"))) (subject (one (attribute_compares (codes "class") equals (codes "a") true))) 3 (true ∷ []) true false
by_compared = (simp get_pairs, simp get_pairs, simp get_pairs)

-- the attribute is touched, the id is not
by_id_attribute : Needed (three [] [] []) (three [] [] ((codes "id", []) ∷ [])) (subject (with_test (not_some (more (subject (one (attribute_selector (codes "id")))) (more (subject (one (id_selector (codes "n")))) no_more))) p)) 3 (true ∷ false ∷ false ∷ []) true false
by_id_attribute = (simp get_pairs, simp get_pairs, simp get_pairs)

by_where : Needed (three [] [] []) (three [] [] (class_of (codes "a"))) (subject (with_test (where_some (more (subject (one (id_selector (codes "n")))) (more (subject class_a) no_more))) p)) 3 (false ∷ true ∷ false ∷ []) false true
by_where = (simp get_pairs, simp get_pairs, simp get_pairs)

by_focus_above : Needed (three [] [] []) (node 1 None (codes "html") [] ∷ record (node 2 (Some 1) (codes "p") []) { states = record quiet { focus = true } } ∷ node 3 (Some 2) (codes "p") [] ∷ []) (combined p child (subject (with_test (simple (in_state focus_state)) p))) 3 (false ∷ true ∷ false ∷ []) false true
by_focus_above = (refl, refl, simp get_pairs)

by_only : Needed (row (inside 3 (codes "p") []) []) (row (inside 3 (codes "p") []) (inside 4 (codes "q") [] ∷ [])) (subject (with_test (simple (only false)) p)) 3 (true ∷ false ∷ []) true false
by_only = (refl, refl, simp get_pairs)

by_place_of_type : Needed (row (inside 3 (codes "p") []) []) (row (inside 3 (codes "p") []) (inside 4 (codes "p") [] ∷ [])) (subject (with_test (simple (nth record {
  formula = record { a = pos 0; b = pos 1 };
  from_last = true;
  of_type = true;
})) p)) 3 (true ∷ false ∷ []) true false
by_place_of_type = (refl, refl, simp get_pairs)

-- the path has two steps
by_next_above : Needed (row (inside 2 (codes "q") (class_of (codes "a"))) (inside 3 (codes "p") [] ∷ node 5 (Some 3) (codes "i") [] ∷ [])) (row (inside 2 (codes "q") []) (inside 3 (codes "p") [] ∷ node 5 (Some 3) (codes "i") [] ∷ [])) (combined i descendant (combined p next_sibling (subject class_a))) 5 (false ∷ false ∷ false ∷ true ∷ []) true false
unfolding ancestors
by_next_above = (simp get_pairs, simp get_pairs, simp get_pairs)

-- the neighbours of an element above
by_neighbour_above : Needed (row (inside 2 (codes "q") []) (inside 3 (codes "p") [] ∷ node 5 (Some 3) (codes "i") [] ∷ [])) (row (inside 2 (codes "q") []) (inside 4 (codes "i") [] ∷ inside 3 (codes "p") [] ∷ node 5 (Some 3) (codes "i") [] ∷ [])) (combined i descendant (combined p next_sibling (subject (one (type_selector (codes "q")))))) 5 (false ∷ false ∷ true ∷ false ∷ []) true false
unfolding ancestors
by_neighbour_above = (refl, refl, simp get_pairs)

by_neighbour_in_list : Needed (row (inside 2 (codes "q") []) (inside 3 (codes "p") [] ∷ [])) (row (inside 2 (codes "q") []) (inside 4 (codes "i") [] ∷ inside 3 (codes "p") [] ∷ [])) (subject (with_test (not_some (more (combined any next_sibling (subject (one (type_selector (codes "q"))))) no_more)) p)) 3 (true ∷ false ∷ false ∷ []) false true
by_neighbour_in_list = (refl, refl, simp get_pairs)

-- a selector that marks an element at which it holds before and after alike
abbrev Idle : List Element → List Element → Selector → ℕ → Bool → Type 0
Idle before after selector x answer =
    ((holds before selector x ∷ holds after selector x ∷ []) ≡ answer ∷ answer ∷ []) × (is_marked before after (selector ∷ []) x ≡ true)

abbrev class_b : Compound
class_b = one (class_selector (codes "b"))

idle_1 : Idle (three [] [] []) (three [] [] (class_of (codes "a"))) (subject (with_test (simple (class_selector (codes "a"))) class_b)) 3 false
idle_1 = (simp get_pairs, simp get_pairs)

idle_2 : Idle (three [] [] []) (three [] (class_of (codes "a")) []) (combined p child (subject (with_test (simple (class_selector (codes "a"))) class_b))) 3 false
idle_2 = (simp get_pairs, simp get_pairs)

idle_3 : Idle (three [] [] []) (three [] [] (class_of (codes "a"))) (subject (with_test (is_some (more (subject p) (more (subject class_a) no_more))) any)) 3 true
idle_3 = (refl, simp get_pairs)

idle_4 : Idle (three [] [] (class_of (codes "b"))) (three [] [] (class_of (codes "a b"))) (subject (with_test (not_some (more (subject class_a) (more (subject class_b) no_more))) any)) 3 false
idle_4 = (simp get_pairs, simp get_pairs)

idle_5 : Idle (three (class_of (codes "a")) [] []) (three (class_of (codes "a")) (class_of (codes "a")) []) (combined p descendant (subject class_a)) 3 true
unfolding ancestors
idle_5 = (simp get_pairs, simp get_pairs)

idle_6 : Idle (three [] [] []) (three [] [] ((codes "id", codes "n") ∷ [])) (subject (with_test (simple (class_selector (codes "a"))) (one (id_selector (codes "n"))))) 3 false
idle_6 = (simp get_pairs, simp get_pairs)

idle_7 : Idle (three [] [] ((codes "title", codes "s") ∷ [])) (three [] [] ((codes "title", codes "t") ∷ [])) (subject (one (attribute_selector (codes "title")))) 3 true
idle_7 = (simp get_pairs, simp get_pairs)

idle_8 : Idle (row (inside 2 (codes "q") []) (inside 4 (codes "q") [] ∷ inside 3 (codes "p") [] ∷ [])) (row (inside 4 (codes "q") []) (inside 3 (codes "p") [] ∷ [])) (combined p later_sibling (subject (one (type_selector (codes "q"))))) 3 true
idle_8 = (refl, simp get_pairs)

idle_9 : Idle (row (inside 2 (codes "q") []) (inside 3 (codes "p") [] ∷ [])) (row (inside 3 (codes "p") []) []) (subject (with_test (simple (nth record {
  formula = record { a = pos 1; b = pos 0 };
  from_last = false;
  of_type = false;
})) p)) 3 true
idle_9 = (refl, simp get_pairs)

-- a style attribute marks by itself
idle_10 : Idle (three [] [] []) (three [] [] ((codes "style", []) ∷ [])) (subject class_a) 3 false
idle_10 = (simp get_pairs, simp get_pairs)

-- where the key is borne neither before nor after, nothing is marked

unborne : filter (is_marked (three [] (class_of (codes "a")) []) (three [] [] []) (combined (one (class_selector (codes "c"))) child (subject class_a) ∷ [])) (1 ∷ 2 ∷ 3 ∷ []) ≡ []
unborne = simp get_pairs
