-- The definitions computed on small documents.
use Rattle.std.proofs.Common.{◌≡◌, ℕ, ℤ, pos, negsuc, Bool, true, false, List, [], ◌∷◌, ◌++◌, map, filter, flat_map, Option, Some, None, refl}
use Rattle.std.specs.Prelude.{codes}
use Rattle.std.specs.FinMap as maps
use Rattle.base_model.specs.Ascii.{tab, line_feed, form_feed, carriage_return}
use Rattle.base_model.specs.Specificity.{Specificity}
use Rattle.base_model.specs.Text.{Characters}
use Rattle.scene_model.specs.Element.{Element, States, hover_state, active_state, focus_state}
use Rattle.scene_model.specs.Lookups.{numbers}
use Rattle.scene_model.specs.Ancestors.{ancestors}
use Rattle.selector_model.specs.Selector.{descendant, child, next_sibling, later_sibling}
use Rattle.selector_model.specs.Selector.{AttributeOperator, equals, includes, dash_match, prefix, suffix, substring}
use Rattle.selector_model.specs.Selector.{Simple, type_selector, id_selector, class_selector, attribute_selector}
use Rattle.selector_model.specs.Selector.{root, empty, nth, only, in_state}
use Rattle.selector_model.specs.Selector.{Selector, subject, combined, Compound, any, with_test}
use Rattle.selector_model.specs.Selector.{simple, is_some, where_some, not_some, Selectors, no_more, more}
use Rattle.selector_model.specs.Comparisons.{folded, compared}
use Rattle.selector_model.specs.Holds.{holds}
use Rattle.selector_model.specs.SpecificityOf.{specificity_of}
use Rattle.selector_model.specs.Key.{Key, id_key, class_key, type_key, any_key, key_of}
use Rattle.selector_model.proofs.AttributeCases.{get_pairs, attributes}

abbrev quiet : States
quiet = record { hover = false; active = false; focus = false }

abbrev with_attribute : ℕ → Option ℕ → Characters → Characters → Characters → Element
with_attribute number parent tag name value = record {
  number = number;
  parent = parent;
  tag = tag;
  attrs = attributes ((name, value) ∷ []);
  states = quiet;
}

abbrev element : ℕ → Option ℕ → Characters → Characters → Element
element number parent tag class = with_attribute number parent tag (codes "class") class

-- each selector holds at these elements and at no others
abbrev HoldAt : List Element → List (Selector × List ℕ) → Type 0
HoldAt doc table = map (λ row. filter (holds doc row.0) (numbers doc)) table ≡ map (λ row. row.1) table

abbrev one : Simple → Compound
one test = with_test (simple test) any

abbrev alone : Simple → Selector
alone test = subject (one test)

abbrev html : Compound
html = one (type_selector (codes "html"))

abbrev div : Compound
div = one (type_selector (codes "div"))

abbrev p : Compound
p = one (type_selector (codes "p"))

abbrev q : Compound
q = one (type_selector (codes "q"))

abbrev i : Compound
i = one (type_selector (codes "i"))

abbrev b : Compound
b = one (type_selector (codes "b"))

abbrev u : Compound
u = one (type_selector (codes "u"))

abbrev class_a : Compound
class_a = one (class_selector (codes "a"))

abbrev class_b : Compound
class_b = one (class_selector (codes "b"))

abbrev class_c : Compound
class_c = one (class_selector (codes "c"))

-- elements on four levels
abbrev family : List Element
family =
    element 1 None (codes "html") []
    ∷ element 2 (Some 1) (codes "div") (codes "a")
    ∷ element 3 (Some 2) (codes "p") (codes "b")
    ∷ element 4 (Some 3) (codes "i") (codes "c")
    ∷ element 5 (Some 2) (codes "p") (codes "c")
    ∷ element 6 (Some 2) (codes "q") []
    ∷ element 7 (Some 2) (codes "p") (codes "b c")
    ∷ element 8 (Some 1) (codes "div") []
    ∷ []

parents_1 : HoldAt family (
    (combined p descendant (subject div), 3 ∷ 5 ∷ 7 ∷ [])
    ∷ (combined i descendant (subject html), 4 ∷ [])
    ∷ (combined i descendant (subject i), [])
    ∷ (combined i child (subject html), [])
    ∷ [])
unfolding ancestors
parents_1 = refl

parents_2 : HoldAt family (
    (combined p child (subject div), 3 ∷ 5 ∷ 7 ∷ [])
    ∷ (combined html child (subject html), [])
    ∷ (combined i descendant (combined p child (subject html)), [])
    ∷ (combined i descendant (combined p descendant (combined div descendant (subject html))), 4 ∷ [])
    ∷ [])
unfolding ancestors
parents_2 = refl

parents_3 : HoldAt family (
    (combined i descendant (combined p descendant (combined div descendant (subject i))), [])
    ∷ [])
unfolding ancestors
parents_3 = refl

parents_of_class_1 : HoldAt family (
    (combined class_c descendant (combined class_b child (subject class_a)), 4 ∷ [])
    ∷ [])
unfolding ancestors
parents_of_class_1 = simp get_pairs

parents_of_class_2 : HoldAt family (
    (combined class_c descendant (combined div child (subject html)), 4 ∷ 5 ∷ 7 ∷ [])
    ∷ [])
unfolding ancestors
parents_of_class_2 = simp get_pairs

siblings_1 : HoldAt family (
    (combined q next_sibling (subject p), 6 ∷ [])
    ∷ (combined p next_sibling (subject p), 5 ∷ [])
    ∷ (combined p later_sibling (subject p), 5 ∷ 7 ∷ [])
    ∷ (combined p later_sibling (subject q), 7 ∷ [])
    ∷ (combined i later_sibling (subject p), [])
    ∷ (combined div next_sibling (subject div), 8 ∷ [])
    ∷ [])
siblings_1 = refl

siblings_2 : HoldAt family (
    (combined html next_sibling (subject html), [])
    ∷ (combined html later_sibling (subject html), [])
    ∷ (combined p next_sibling (combined q later_sibling (subject p)), 7 ∷ [])
    ∷ (combined p later_sibling (combined q next_sibling (subject p)), 7 ∷ [])
    ∷ (combined p later_sibling (combined p later_sibling (subject i)), [])
    ∷ [])
siblings_2 = refl

siblings_of_class : HoldAt family (
    (combined div later_sibling (subject class_a), 8 ∷ [])
    ∷ [])
siblings_of_class = simp get_pairs

-- The nearest ancestor that passes a compound is not the one to the left of which the rest holds.
-- each in the one before
abbrev chain : List Element
chain =
    element 1 None (codes "html") []
    ∷ element 2 (Some 1) (codes "p") []
    ∷ element 3 (Some 2) (codes "div") []
    ∷ element 4 (Some 3) (codes "p") []
    ∷ element 5 (Some 4) (codes "i") []
    ∷ []

farther_ancestor : HoldAt chain (
    (combined i descendant (combined p child (subject html)), 5 ∷ [])
    ∷ [])
unfolding ancestors
farther_ancestor = refl

-- Nor is the nearest sibling.
-- elements in rows
abbrev rows : List Element
rows =
    element 1 None (codes "html") []
    ∷ element 2 (Some 1) (codes "q") []
    ∷ element 3 (Some 1) (codes "p") []
    ∷ element 5 (Some 3) (codes "b") []
    ∷ element 6 (Some 3) (codes "b") []
    ∷ element 7 (Some 6) (codes "i") []
    ∷ element 4 (Some 1) (codes "p") []
    ∷ element 8 (Some 1) (codes "u") []
    ∷ []

farther_sibling : HoldAt rows (
    (combined u later_sibling (combined p next_sibling (subject q)), 8 ∷ [])
    ∷ (combined i descendant (combined p later_sibling (subject q)), 7 ∷ [])
    ∷ (combined i descendant (combined p next_sibling (subject q)), 7 ∷ [])
    ∷ (combined i child (combined b later_sibling (subject b)), 7 ∷ [])
    ∷ (combined i descendant (combined b descendant (subject html)), 7 ∷ [])
    ∷ [])
unfolding ancestors
farther_sibling = refl

-- `:where(:not(:not(.b)), div > p)`
abbrev nested : Selector
nested =
    let not_b : Selector = subject (with_test (not_some (more (subject class_b) no_more)) any) in
    let twice : Selector = subject (with_test (not_some (more not_b no_more)) any) in
    subject (with_test (where_some (more twice (more (combined p child (subject div)) no_more))) any)

lists_1 : HoldAt family (
    (subject (with_test (is_some (more (subject p) (more (subject class_a) no_more))) any), 2 ∷ 3 ∷ 5 ∷ 7 ∷ [])
    ∷ [])
lists_1 = simp get_pairs

lists_2 : HoldAt family (
    (subject (with_test (where_some (more (subject p) (more (subject class_a) no_more))) any), 2 ∷ 3 ∷ 5 ∷ 7 ∷ [])
    ∷ [])
lists_2 = simp get_pairs

lists_3 : HoldAt family (
    (subject (with_test (not_some (more (subject p) (more (subject class_a) no_more))) any), 1 ∷ 4 ∷ 6 ∷ 8 ∷ [])
    ∷ [])
lists_3 = simp get_pairs

lists_4 : HoldAt family (
    (combined p next_sibling nested, 5 ∷ [])
    ∷ [])
lists_4 = simp get_pairs

lists_5 : HoldAt family (
    (subject (with_test (not_some (more (subject class_c) no_more)) (with_test (simple (type_selector (codes "p"))) class_b)), 3 ∷ [])
    ∷ [])
lists_5 = simp get_pairs

empty_lists : HoldAt family (
    (subject (with_test (is_some no_more) any), [])
    ∷ (subject (with_test (where_some no_more) any), [])
    ∷ (subject (with_test (not_some no_more) any), 1 ∷ 2 ∷ 3 ∷ 4 ∷ 5 ∷ 6 ∷ 7 ∷ 8 ∷ [])
    ∷ [])
empty_lists = refl

-- each kind of whitespace in the root's class; an id, and an empty one
abbrev marked : List Element
marked =
    record (with_attribute 1 None (codes "html") (codes "class") (tab ∷ codes "a b" ++ line_feed ∷ codes "c" ++ form_feed ∷ codes "d" ++ carriage_return ∷ codes "e")) { states = record quiet { active = true } }
    ∷ with_attribute 2 (Some 1) (codes "p") (codes "id") (codes "top")
    ∷ with_attribute 3 (Some 1) (codes "HTML") (codes "id") []
    ∷ []

names_1 : HoldAt marked (
    (alone (type_selector (codes "html")), 1 ∷ [])
    ∷ (alone (type_selector (codes "ht")), [])
    ∷ (alone (id_selector (codes "top")), 2 ∷ [])
    ∷ (alone (id_selector (codes "Top")), [])
    ∷ (alone (id_selector []), [])
    ∷ [])
names_1 = simp get_pairs

names_2 : HoldAt marked (
    (alone (class_selector (codes "a")), 1 ∷ [])
    ∷ (alone (class_selector (codes "b")), 1 ∷ [])
    ∷ (alone (class_selector (codes "c")), 1 ∷ [])
    ∷ (alone (class_selector (codes "d")), 1 ∷ [])
    ∷ (alone (class_selector (codes "e")), 1 ∷ [])
    ∷ [])
names_2 = simp get_pairs

names_3 : HoldAt marked (
    (alone (class_selector (codes "A")), [])
    ∷ (alone (class_selector (codes "a b")), [])
    ∷ (alone (class_selector []), [])
    ∷ (alone (attribute_selector (codes "id")), 2 ∷ 3 ∷ [])
    ∷ (alone (attribute_selector (codes "none")), [])
    ∷ [])
names_3 = simp get_pairs

states : HoldAt marked (
    (alone (root), 1 ∷ [])
    ∷ (alone (empty), 2 ∷ 3 ∷ [])
    ∷ (alone (in_state active_state), 1 ∷ [])
    ∷ (alone (in_state hover_state), [])
    ∷ (alone (in_state focus_state), [])
    ∷ [])
states = refl

-- seven elements in the root, which is counted alone among its siblings
abbrev eight : List Element
eight =
    element 1 None (codes "html") []
    ∷ element 2 (Some 1) (codes "p") []
    ∷ element 3 (Some 1) (codes "q") []
    ∷ element 4 (Some 1) (codes "p") []
    ∷ element 5 (Some 1) (codes "p") []
    ∷ element 6 (Some 1) (codes "q") []
    ∷ element 7 (Some 1) (codes "p") []
    ∷ element 8 (Some 1) (codes "q") []
    ∷ []

abbrev index_is : ℤ → ℤ → Bool → Bool → Selector
index_is a b from_last of_type = alone (nth record {
  formula = record { a = a; b = b };
  from_last = from_last;
  of_type = of_type;
})

indexes_1 : HoldAt eight (
    (index_is (pos 2) (pos 1) false false, 1 ∷ 2 ∷ 4 ∷ 6 ∷ 8 ∷ [])
    ∷ (index_is (pos 2) (pos 0) false false, 3 ∷ 5 ∷ 7 ∷ [])
    ∷ (index_is (negsuc 0) (pos 3) false false, 1 ∷ 2 ∷ 3 ∷ 4 ∷ [])
    ∷ (index_is (negsuc 1) (pos 5) false false, 1 ∷ 2 ∷ 4 ∷ 6 ∷ [])
    ∷ (index_is (pos 0) (pos 2) false false, 3 ∷ [])
    ∷ (index_is (pos 0) (pos 0) false false, [])
    ∷ (index_is (pos 0) (negsuc 0) false false, [])
    ∷ (index_is (pos 3) (negsuc 0) false false, 3 ∷ 6 ∷ [])
    ∷ [])
indexes_1 = refl

indexes_2 : HoldAt eight (
    (index_is (negsuc 1) (negsuc 0) false false, [])
    ∷ (index_is (negsuc 0) (pos 0) false false, [])
    ∷ (index_is (pos 1) (pos 5) false false, 6 ∷ 7 ∷ 8 ∷ [])
    ∷ (index_is (pos 1) (negsuc 2) false false, 1 ∷ 2 ∷ 3 ∷ 4 ∷ 5 ∷ 6 ∷ 7 ∷ 8 ∷ [])
    ∷ (index_is (pos 3) (pos 1) true false, 1 ∷ 2 ∷ 5 ∷ 8 ∷ [])
    ∷ (index_is (pos 0) (pos 1) true false, 1 ∷ 8 ∷ [])
    ∷ (index_is (pos 0) (pos 2) false true, 4 ∷ 6 ∷ [])
    ∷ (index_is (pos 2) (pos 0) false true, 4 ∷ 6 ∷ 7 ∷ [])
    ∷ [])
indexes_2 = refl

indexes_3 : HoldAt eight (
    (index_is (pos 0) (pos 1) true true, 1 ∷ 7 ∷ 8 ∷ [])
    ∷ (index_is (negsuc 0) (pos 2) true true, 1 ∷ 5 ∷ 6 ∷ 7 ∷ 8 ∷ [])
    ∷ (index_is (negsuc 2147483647) (pos 1) false false, 1 ∷ 2 ∷ [])
    ∷ [])
indexes_3 = refl

-- elements with none or some beside them
abbrev pairs : List Element
pairs =
    element 1 None (codes "html") []
    ∷ element 2 (Some 1) (codes "p") []
    ∷ element 5 (Some 2) (codes "p") []
    ∷ element 3 (Some 1) (codes "q") []
    ∷ element 6 (Some 3) (codes "p") []
    ∷ element 7 (Some 3) (codes "q") []
    ∷ element 4 (Some 1) (codes "q") []
    ∷ []

only_ones : HoldAt pairs (
    (alone (only false), 1 ∷ 5 ∷ [])
    ∷ (alone (only true), 1 ∷ 2 ∷ 5 ∷ 6 ∷ 7 ∷ [])
    ∷ [])
only_ones = refl

-- a row's operator, value and part: whether it compares where ASCII case counts, and where it does not
abbrev Compare : Bool → Bool → List (AttributeOperator × Characters × Characters) → Type 0
Compare counting ignoring table =
    flat_map (λ row. compared row.0 row.1 row.2 ∷ compared row.0 (folded false row.1) (folded false row.2) ∷ []) table
    ≡ flat_map (λ row. counting ∷ ignoring ∷ []) table

where_equal : Compare true true (
    (equals, codes "Hello wide World", codes "Hello wide World")
    ∷ (equals, [], [])
    ∷ (equals, codes "caf" ++ 233 ∷ [], codes "caf" ++ 233 ∷ [])
    ∷ (includes, codes "Hello wide World", codes "wide")
    ∷ (includes, codes "a" ++ tab ∷ codes "b" ++ line_feed ∷ codes "c" ++ form_feed ∷ codes "d" ++ carriage_return ∷ codes "e", codes "e")
    ∷ (includes, codes "a" ++ tab ∷ codes "b" ++ line_feed ∷ codes "c" ++ form_feed ∷ codes "d" ++ carriage_return ∷ codes "e", codes "c")
    ∷ (dash_match, codes "en-GB", codes "en")
    ∷ (dash_match, codes "en-GB", codes "en-GB")
    ∷ (dash_match, codes "en", codes "en")
    ∷ (dash_match, [], [])
    ∷ (dash_match, codes "-x", [])
    ∷ (prefix, codes "Hello wide World", codes "Hello w")
    ∷ (prefix, codes "Hello", codes "Hello")
    ∷ (suffix, codes "Hello wide World", codes "World")
    ∷ (suffix, codes "caf" ++ 233 ∷ [], 233 ∷ [])
    ∷ (substring, codes "Hello wide World", codes "lo w")
    ∷ (substring, codes "aab", codes "ab")
    ∷ (substring, codes "caf" ++ 233 ∷ codes "s", codes "f" ++ 233 ∷ [])
    ∷ [])
where_equal = refl

where_not : Compare false false (
    (equals, codes "Hello", codes "Hell")
    ∷ (equals, [], codes "a")
    ∷ (equals, codes "caf" ++ 233 ∷ [], codes "caf" ++ 201 ∷ [])
    ∷ (includes, codes "Hello wide World", codes "wid")
    ∷ (includes, codes "Hello wide World", codes "wide World")
    ∷ (includes, codes "Hello wide World", [])
    ∷ (includes, codes "Hello wide World", codes " ")
    ∷ (includes, [], [])
    ∷ (includes, codes "a" ++ 160 ∷ codes "b", codes "a")
    ∷ (dash_match, codes "en-GB", codes "e")
    ∷ (dash_match, codes "en-GB", codes "en-")
    ∷ (dash_match, codes "english", codes "en")
    ∷ (dash_match, codes "en-GB", [])
    ∷ (dash_match, codes "e", codes "en")
    ∷ (prefix, codes "Hello", [])
    ∷ (prefix, [], [])
    ∷ (prefix, codes "Hello", codes "Hello!")
    ∷ (prefix, codes "Hello", codes "ello")
    ∷ (suffix, codes "Hello", [])
    ∷ (suffix, [], [])
    ∷ (suffix, codes "Hello", codes "Hell")
    ∷ (suffix, codes "o", codes "Hello")
    ∷ (substring, codes "Hello", [])
    ∷ (substring, [], [])
    ∷ (substring, codes "Hello", codes "lol")
    ∷ (substring, codes "Hello", codes "ello!")
    ∷ [])
where_not = refl

but_for_case : Compare false true (
    (equals, codes "caf" ++ 233 ∷ [], codes "CAF" ++ 233 ∷ [])
    ∷ (includes, codes "Hello wide World", codes "WIDE")
    ∷ (dash_match, codes "en-GB", codes "EN")
    ∷ (prefix, codes "Hello", codes "hEL")
    ∷ (suffix, codes "Hello", codes "LO")
    ∷ (substring, codes "Hello", codes "ELL")
    ∷ [])
but_for_case = refl

-- `p, #n, .a.b`
abbrev members : Selectors
members = more (subject p) (more (subject (one (id_selector (codes "n")))) (more (subject (with_test (simple (class_selector (codes "a"))) class_b)) no_more))

-- each selector has this specificity and this key
abbrev Weigh : List (Selector × Specificity × Key) → Type 0
Weigh table = (map (λ row. specificity_of row.0) table ≡ map (λ row. row.1) table) × (map (λ row. key_of row.0) table ≡ map (λ row. row.2) table)

weighed : Weigh (
    (subject (with_test (simple (type_selector (codes "p"))) (with_test (simple (class_selector (codes "a"))) class_b)), record { ids = 0; classes = 2; types = 1 }, class_key (codes "a"))
    ∷ (subject (with_test (simple (class_selector (codes "a"))) (with_test (simple (id_selector (codes "n"))) (one (id_selector (codes "m"))))), record { ids = 2; classes = 1; types = 0 }, id_key (codes "n"))
    ∷ (subject any, record { ids = 0; classes = 0; types = 0 }, any_key)
    ∷ (combined p child (subject (with_test (simple (class_selector (codes "a"))) (one (id_selector (codes "n"))))), record { ids = 1; classes = 1; types = 1 }, type_key (codes "p"))
    ∷ (subject (with_test (is_some members) p), record { ids = 1; classes = 0; types = 1 }, type_key (codes "p"))
    ∷ (subject (with_test (not_some members) class_a), record { ids = 1; classes = 1; types = 0 }, class_key (codes "a"))
    ∷ (subject (with_test (where_some members) any), record { ids = 0; classes = 0; types = 0 }, any_key)
    ∷ [])
weighed = (refl, refl)
