-- What edits mark on small documents.
use Rattle.std.proofs.Common.{◌≡◌, ℕ, true, List, [], ◌∷◌, filter, length, Some, None, refl}
use Rattle.std.specs.Prelude.{codes}
use Rattle.base_model.specs.Origin.{author}
use Rattle.base_model.specs.Text.{Characters}
use Rattle.scene_model.specs.Element.{Element}
use Rattle.scene_model.specs.Lookups.{numbers}
use Rattle.scene_model.specs.Ancestors.{ancestors}
use Rattle.selector_model.specs.Selector.{descendant, child, next_sibling, later_sibling}
use Rattle.selector_model.specs.Selector.{equals, type_selector, id_selector, class_selector, attribute_selector, attribute_compares}
use Rattle.selector_model.specs.Selector.{Selector, subject, combined, Compound, any, with_test, simple, is_some, not_some, no_more, more}
use Rattle.change_model.specs.InPlace.{with_attribute, without_attribute}
use Rattle.edit_model.proofs.ExampleCases.{get_set, get_unset, node, class_of, one, class_a}
use Rattle.edit_model.specs.Marked.{is_marked}
use Rattle.cascade_model.specs.Matching.{matching, matching_rules, matching_style}
use Rattle.session_model.specs.Marking.{marking_selectors}
use Rattle.session_model.proofs.BatchCases.{sheet}
use Rattle.sheet_model.specs.Sources.{Sources, rules_of_sheets}
use Rattle.sheet_model.specs.Declared.{Declared}
use Rattle.layer_model.specs.Name.{no_layer}
use Rattle.layer_model.specs.Order.{Layers}
use Rattle.sheet_model.specs.StyleRules.{style_rules_in}
use Rattle.sheet_model.specs.SelectorsIn.{selectors_in}
use Rattle.syntax_model.specs.SheetRules.{rules_in}
use Rattle.syntax_model.specs.TokensIn.{tokens_in}
use Rattle.selector_model.proofs.AttributeCases.{get_pairs}

-- a selector in `:not`
abbrev no : Selector → Compound → Compound
no selector rest = with_test (not_some (more selector no_more)) rest

abbrev Mark : List Element → List Element → List Selector → List ℕ → Type 0
Mark before after selectors expected = filter (is_marked before after selectors) (numbers after) ≡ expected

abbrev i : Compound
i = one (type_selector (codes "i"))

abbrev family : List Element
family =
    node 1 None (codes "html") []
    ∷ node 2 (Some 1) (codes "p") (class_of (codes "a"))
    ∷ node 3 (Some 2) (codes "i") []
    ∷ node 4 (Some 2) (codes "b") []
    ∷ []

-- `:not(.a) > i`, `:is(#n, b):not(.a *)`
abbrev turned : List Selector
turned =
    combined i child (subject (no (subject class_a) any))
    ∷ subject (with_test (is_some (more (subject (one (id_selector (codes "n")))) (more (subject (one (type_selector (codes "b")))) no_more))) (no (combined any descendant (subject class_a)) any))
    ∷ []

marks_1 : Mark family (without_attribute 2 (codes "class") family) turned (3 ∷ 4 ∷ [])
unfolding ancestors
marks_1 = simp (get_pairs, get_set, get_unset)

abbrev two : List (Characters × Characters) → List (Characters × Characters) → List Element
two r s = node 1 None (codes "html") [] ∷ node 2 (Some 1) (codes "p") r ∷ node 3 (Some 1) (codes "p") s ∷ []

-- `.a.b`
abbrev both : List Selector
both = subject (with_test (simple (class_selector (codes "a"))) (one (class_selector (codes "b")))) ∷ []

marks_2 : Mark (two (class_of (codes "b")) (class_of (codes "a"))) (with_attribute 2 (codes "class") (codes "c") (two (class_of (codes "b")) (class_of (codes "a")))) both []
marks_2 = simp (get_pairs, get_set, get_unset)

marks_3 : Mark (two (class_of (codes "c")) (class_of (codes "a"))) (with_attribute 3 (codes "class") (codes "b a") (two (class_of (codes "c")) (class_of (codes "a")))) both (3 ∷ [])
marks_3 = simp (get_pairs, get_set, get_unset)

marks_4 : Mark (two (class_of (codes "c")) (class_of (codes "b a"))) (with_attribute 3 (codes "class") (codes "b") (two (class_of (codes "c")) (class_of (codes "b a")))) both (3 ∷ [])
marks_4 = simp (get_pairs, get_set, get_unset)

marks_5 : Mark (two (class_of (codes "a")) []) (with_attribute 2 (codes "class") (codes "a  a") (two (class_of (codes "a")) [])) (subject class_a ∷ subject (one (attribute_compares (codes "class") equals (codes "a") true)) ∷ []) (2 ∷ [])
marks_5 = simp (get_pairs, get_set, get_unset)

marks_6 : Mark (two (class_of (codes "a")) []) (with_attribute 2 (codes "class") (codes "a  a") (two (class_of (codes "a")) [])) (subject class_a ∷ []) []
marks_6 = simp (get_pairs, get_set, get_unset)

-- `#a + i`, `#b ~ i i`, `p[id]`
abbrev by_id : List Selector
by_id =
    combined i next_sibling (subject (one (id_selector (codes "a"))))
    ∷ combined i descendant (combined i later_sibling (subject (one (id_selector (codes "b")))))
    ∷ subject (with_test (simple (type_selector (codes "p"))) (one (attribute_selector (codes "id"))))
    ∷ []

abbrev rows : List (Characters × Characters) → List Element
rows pairs =
    node 1 None (codes "html") []
    ∷ node 2 (Some 1) (codes "p") pairs
    ∷ node 3 (Some 1) (codes "i") []
    ∷ node 4 (Some 3) (codes "i") []
    ∷ []

abbrev id_of : Characters → List (Characters × Characters)
id_of value = (codes "id", value) ∷ []

marks_7 : Mark (rows (id_of (codes "a"))) (with_attribute 2 (codes "id") (codes "b") (rows (id_of (codes "a")))) by_id (2 ∷ 3 ∷ 4 ∷ [])
unfolding ancestors
marks_7 = simp (get_pairs, get_set, get_unset)

marks_8 : Mark (rows (id_of (codes "b"))) (with_attribute 2 (codes "id") [] (rows (id_of (codes "b")))) by_id (2 ∷ 4 ∷ [])
unfolding ancestors
marks_8 = simp (get_pairs, get_set, get_unset)

marks_9 : Mark (rows (id_of [])) (without_attribute 2 (codes "id") (rows (id_of []))) by_id (2 ∷ [])
unfolding ancestors
marks_9 = simp (get_pairs, get_set, get_unset)

-- the last three as edits one after another
marks_10 : Mark (with_attribute 2 (codes "id") [] (with_attribute 2 (codes "id") (codes "b") (rows (id_of (codes "a"))))) (without_attribute 2 (codes "id") (with_attribute 2 (codes "id") [] (with_attribute 2 (codes "id") (codes "b") (rows (id_of (codes "a")))))) by_id (2 ∷ [])
unfolding ancestors
marks_10 = simp (get_pairs, get_set, get_unset)

-- by the selectors of a sheet's text
from_text : marking_selectors (sheet 1 author (codes ":not(.a) > i{color:red} :is(#n, b):not(.a *){color:red}") ∷ []) ≡ turned
unfolding rules_of_sheets style_rules_in rules_in tokens_in selectors_in
from_text = refl

-- one rule with one declaration
abbrev only_rule : Layers → Declared → Selector → Sources
only_rule layers d selector = record {
  rules = record {
    selectors = selector ∷ [];
    declarations = d ∷ [];
    origin = author;
    layer = no_layer;
    sheet = 1;
    position = 0;
    first_index = 0;
  } ∷ [];
  layers = layers;
}

-- the dependency on `.a` alone is hit, and the matching differs: the law is not true of weaker marks
weaker : (layers : Layers) (d : Declared) → length (matching family (only_rule layers d (combined i child (subject class_a))) 3) ∷ length (matching (without_attribute 2 (codes "class") family) (only_rule layers d (combined i child (subject class_a))) 3) ∷ [] ≡ 1 ∷ 0 ∷ []
unfolding matching_rules matching_style
weaker layers d = simp (get_pairs, get_unset)
