-- The definitions computed on small cases.
use Rattle.std.proofs.Common.{◌≡◌, ℕ, true, false, List, [], ◌∷◌, map, Option, Some, None, refl}
use Rattle.std.specs.Prelude.{codes}
use Rattle.base_model.specs.Ascii.{tab}
use Rattle.base_model.specs.Specificity.{Specificity}
use Rattle.base_model.specs.Text.{Characters}
use Rattle.scene_model.specs.Element.{Element, hover_state}
use Rattle.scene_model.specs.Ancestors.{ancestors}
use Rattle.selector_model.specs.Selector.{descendant, later_sibling}
use Rattle.selector_model.specs.Selector.{Simple, type_selector, id_selector, class_selector, attribute_selector, in_state}
use Rattle.selector_model.specs.Selector.{Selector, subject, combined, Compound, any, with_test, simple, is_some, not_some, no_more, more}
use Rattle.selector_model.proofs.AttributeCases.{get_pairs, attributes}
use Rattle.rule_map_model.specs.Buckets.{Bucket, of_id, of_class, of_type, of_attribute, of_any, bucket_of, looks_at}
use Rattle.rule_map_model.specs.Candidates.{candidates}
use Rattle.rule_map_model.specs.Hits.{hit, folded}
use Rattle.rule_map_model.specs.Places.{Place, places, hits_at}

abbrev element : ℕ → Option ℕ → Characters → List (Characters × Characters) → Element
element number parent tag pairs = record {
  number = number;
  parent = parent;
  tag = tag;
  attrs = attributes pairs;
  states = record { hover = false; active = false; focus = false };
}

-- `html`; `p` with `class="a c a"` and an empty id; `p` with the classes `b` and `a`, a tab between them, and the id `n`; `i`
abbrev document : List Element
document =
    element 1 None (codes "html") [] ∷ element 2 (Some 1) (codes "p") ((codes "class", codes "a c a") ∷ (codes "id", []) ∷ [])
    ∷ element 3 (Some 1) (codes "p") ((codes "class", 98 ∷ tab ∷ 97 ∷ []) ∷ (codes "id", codes "n") ∷ []) ∷ element 4 (Some 1) (codes "i") [] ∷ []

abbrev one : Simple → Compound
one test = with_test (simple test) any

abbrev tag : Characters → Compound
tag name = one (type_selector name)

abbrev class : Characters → Compound
class name = one (class_selector name)

abbrev id : Characters → Compound
id name = one (id_selector name)

-- `p.a, #n{} .b.a{} :is(#n){} *{} i, .c p{} p#n:hover{} .a .b ~ i, .z{} :not(.q){}`
abbrev rules : List (List Selector)
rules =
    (subject (with_test (simple (type_selector (codes "p"))) (class (codes "a"))) ∷ subject (id (codes "n")) ∷ [])
    ∷ (subject (with_test (simple (class_selector (codes "b"))) (class (codes "a"))) ∷ [])
    ∷ (subject (with_test (is_some (more (subject (id (codes "n"))) no_more)) any) ∷ [])
    ∷ (subject any ∷ [])
    ∷ (subject (tag (codes "i")) ∷ combined (tag (codes "p")) descendant (subject (class (codes "c"))) ∷ [])
    ∷ (subject (with_test (simple (type_selector (codes "p"))) (with_test (simple (id_selector (codes "n"))) (one (in_state hover_state)))) ∷ [])
    ∷ (combined (tag (codes "i")) later_sibling (combined (class (codes "b")) descendant (subject (class (codes "a")))) ∷ subject (class (codes "z")) ∷ [])
    ∷ (subject (with_test (not_some (more (subject (class (codes "q"))) no_more)) any) ∷ []) ∷ []

of_html : candidates document 1 rules ≡ 2 ∷ 3 ∷ 7 ∷ []
of_html = simp get_pairs

of_classes : candidates document 2 rules ≡ 0 ∷ 2 ∷ 3 ∷ 4 ∷ 7 ∷ []
of_classes = simp get_pairs

of_an_id : candidates document 3 rules ≡ 0 ∷ 1 ∷ 2 ∷ 3 ∷ 4 ∷ 5 ∷ 7 ∷ []
of_an_id = simp get_pairs

of_a_type : candidates document 4 rules ≡ 2 ∷ 3 ∷ 4 ∷ 6 ∷ 7 ∷ []
of_a_type = simp get_pairs

of_no_rule : candidates document 1 [] ≡ []
of_no_rule = refl

-- a bucket for each selector: `[x]`, `p[x]`, `[x] *`, `:is([x])`

abbrev x : Simple
x = attribute_selector (codes "x")

by_attribute : bucket_of (subject (one x)) ≡ of_attribute (codes "x")
by_attribute = refl

by_type_first : bucket_of (subject (with_test (simple x) (tag (codes "p")))) ≡ of_type (codes "p")
by_type_first = refl

by_subject : bucket_of (combined any descendant (subject (one x))) ≡ of_any
by_subject = refl

by_no_nested : bucket_of (subject (with_test (is_some (more (subject (one x)) no_more)) any)) ≡ of_any
by_no_nested = refl

-- what an element looks at
looked : map (λ bucket. looks_at document bucket 2)
    (of_any ∷ of_type (codes "p") ∷ of_class (codes "c") ∷ of_attribute (codes "class") ∷ of_id [] ∷ of_class (codes "b") ∷ of_attribute (codes "x") ∷ [])
    ≡ true ∷ true ∷ true ∷ true ∷ false ∷ false ∷ false ∷ []
looked = simp get_pairs

-- the places in a bucket, by the numbers of rules and selectors

abbrev numbers_in : Bucket → List (ℕ × ℕ)
numbers_in bucket = map (λ (place : Place). (place.rule, place.selector)) (places (λ name. 7) rules bucket)

in_class : numbers_in (of_class (codes "a")) ≡ (0, 0) ∷ []
in_class = refl

in_type : numbers_in (of_type (codes "i")) ≡ (4, 0) ∷ (6, 0) ∷ []
in_type = refl

in_id : numbers_in (of_id (codes "n")) ≡ (0, 1) ∷ (5, 0) ∷ []
in_id = refl

in_rest : numbers_in of_any ≡ (2, 0) ∷ (3, 0) ∷ (7, 0) ∷ []
in_rest = refl

in_no_rule : places (λ name. 7) [] of_any ≡ []
in_no_rule = refl

-- the slots of `.c p` and of `.a .b ~ i`, where each name has the slot 7
slots_in : map (λ (place : Place). place.slots) (places (λ name. 7) rules (of_type (codes "p"))) ≡ (7 ∷ []) ∷ []
slots_in = refl

-- what is tested at a place: `p.a` holds at the first `p`, whatever the filter has; `.c p` is refused where a counter is 0

abbrev at_place : ℕ → ℕ → List ℕ → Place
at_place rule selector slots = record { rule = rule; selector = selector; slots = slots }

held : hits_at [] document 2 rules (at_place 0 0 []) ≡ hit 0 (record { ids = 0; classes = 1; types = 1 }) ∷ []
held = simp get_pairs

filtered : hits_at (0 ∷ []) document 2 rules (at_place 4 1 (0 ∷ [])) ≡ []
filtered = refl

not_held : hits_at (1 ∷ []) document 2 rules (at_place 4 1 (0 ∷ [])) ≡ []
unfolding ancestors
not_held = simp get_pairs

-- hits of one rule, one after another, become one

abbrev of_classes_only : ℕ → Specificity
of_classes_only n = record { ids = 0; classes = n; types = 0 }

folds : folded (hit 1 (of_classes_only 1) ∷ hit 1 (of_classes_only 3) ∷ hit 1 (of_classes_only 2) ∷ hit 4 (of_classes_only 0) ∷ [])
    ≡ hit 1 (of_classes_only 3) ∷ hit 4 (of_classes_only 0) ∷ []
folds = refl
