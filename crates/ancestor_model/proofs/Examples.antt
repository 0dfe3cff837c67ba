-- The definitions computed on small cases.
use Rattle.std.proofs.Common.{◌≡◌, ℕ, true, false, List, [], ◌∷◌, length, map, refl}
use Rattle.std.specs.Prelude.{codes}
use Rattle.base_model.specs.Text.{Characters}
use Rattle.selector_model.specs.Selector.{Combinator, descendant, child, next_sibling, later_sibling}
use Rattle.selector_model.specs.Selector.{type_selector, id_selector, class_selector}
use Rattle.selector_model.specs.Selector.{Selector, subject, combined, Compound, any, with_test, simple, is_some, no_more, more}
use Rattle.ancestor_model.specs.Above.{ancestor_names, ancestor_slots, all_counted}
use Rattle.ancestor_model.specs.Counts.{raised, lowered, times, all_raised, all_lowered}

abbrev of_type : Characters → Compound
of_type tag = with_test (simple (type_selector tag)) any

abbrev of_class : Characters → Compound
of_class class = with_test (simple (class_selector class)) any

-- a selector of types alone, from the right, all with one combinator
abbrev types : Combinator → Characters → List Characters → Selector
types combinator tag [] = subject (of_type tag)
types combinator tag (left ∷ tags) = combined (of_type tag) combinator (types combinator left tags)

-- `.a > p + i b`
of_siblings : ancestor_names (combined (of_type (codes "b")) descendant (combined (of_type (codes "i")) next_sibling
    (combined (of_type (codes "p")) child (subject (of_class (codes "a")))))) ≡ codes "i" ∷ codes "a" ∷ []
of_siblings = refl

-- `:is(.a .b) c ~ d`
abbrev nested : Compound
nested = with_test (is_some (more (combined (of_class (codes "b")) descendant (subject (of_class (codes "a")))) no_more)) any

of_a_list : ancestor_names (combined (of_type (codes "d")) later_sibling (combined (of_type (codes "c")) descendant (subject nested))) ≡ []
of_a_list = refl

-- `#n .a.b > i`
of_compounds : ancestor_names (combined (of_type (codes "i")) child
    (combined (with_test (simple (class_selector (codes "a"))) (of_class (codes "b"))) descendant
    (subject (with_test (simple (id_selector (codes "n"))) any)))) ≡ codes "a" ∷ codes "b" ∷ codes "n" ∷ []
of_compounds = refl

-- `a b c d e f`
abbrev six : Selector
six = types descendant (codes "f") (codes "e" ∷ codes "d" ∷ codes "c" ∷ codes "b" ∷ codes "a" ∷ [])

of_types : ancestor_names six ≡ codes "e" ∷ codes "d" ∷ codes "c" ∷ codes "b" ∷ codes "a" ∷ []
of_types = refl

-- the first four are looked up
abbrev first_character : Characters → ℕ
first_character [] = 0
first_character (c ∷ cs) = c

first_four : ancestor_slots first_character six ≡ codes "edcb"
first_four = refl

no_ancestor : ancestor_names (types later_sibling (codes "b") (codes "a" ∷ [])) ≡ []
no_ancestor = refl

-- one name more, and one less

more_of_some : raised 1 (0 ∷ 254 ∷ 7 ∷ []) ≡ 0 ∷ 255 ∷ 7 ∷ []
more_of_some = refl

more_of_full : raised 1 (0 ∷ 255 ∷ 7 ∷ []) ≡ 0 ∷ 255 ∷ 7 ∷ []
more_of_full = refl

less_of_some : lowered 1 (0 ∷ 254 ∷ 7 ∷ []) ≡ 0 ∷ 253 ∷ 7 ∷ []
less_of_some = refl

less_of_full : lowered 1 (0 ∷ 255 ∷ 7 ∷ []) ≡ 0 ∷ 255 ∷ 7 ∷ []
less_of_full = refl

less_of_nothing : lowered 0 (0 ∷ 255 ∷ 7 ∷ []) ≡ 0 ∷ 255 ∷ 7 ∷ []
less_of_nothing = refl

-- names, where those of one length have one slot

abbrev names : List Characters
names = codes "a" ∷ codes "bc" ∷ codes "d" ∷ []

counted : map (λ s. times length s names) (0 ∷ 1 ∷ 2 ∷ []) ≡ 0 ∷ 2 ∷ 1 ∷ []
counted = refl

all_more : all_raised length names (0 ∷ 0 ∷ 0 ∷ []) ≡ 0 ∷ 2 ∷ 1 ∷ []
all_more = refl

all_less : all_lowered length names (0 ∷ 2 ∷ 1 ∷ []) ≡ 0 ∷ 0 ∷ 0 ∷ []
all_less = refl

-- a counter that came to be full stays full
full_stays : all_lowered length names (all_raised length names (0 ∷ 254 ∷ 0 ∷ [])) ≡ 0 ∷ 255 ∷ 0 ∷ []
full_stays = refl

-- the filter's answers
answers : map (all_counted (0 ∷ 2 ∷ 1 ∷ [])) ((1 ∷ 2 ∷ []) ∷ (1 ∷ 0 ∷ []) ∷ [] ∷ []) ≡ true ∷ false ∷ true ∷ []
answers = refl
