-- The definitions computed on small cases.
use Rattle.std.proofs.Common.{◌≡◌, ℕ, true, false, List, [], ◌∷◌, map, Option, Some, None, sym, ap, ◌∙◌, refl}
use Rattle.std.specs.Prelude.{codes}
use Rattle.std.specs.FinMap as maps
use Rattle.std.specs.Option.{option_map_or}
use Rattle.std.proofs.lemmas.Bool.{true≢false}
use Rattle.base_model.specs.Text.{Characters, same_text}
use Rattle.scene_model.specs.Element.{Element, Attributes, States}
use Rattle.selector_model.specs.Selector.{child, descendant, next_sibling, later_sibling}
use Rattle.selector_model.specs.Selector.{Simple, type_selector, class_selector, attribute_selector, root, empty, only, in_state}
use Rattle.selector_model.specs.Selector.{Selector, subject, combined, Compound, any, with_test, simple, where_some, not_some, no_more, more}
use Rattle.scene_model.specs.Element.{hover_state}
use Rattle.selector_model.proofs.AttributeCases.{get_pairs, attributes}
use Rattle.custom_model.proofs.Maps.{entries-empty}
use Rattle.value_model.specs.Style.{Style}
use Rattle.sharing_model.specs.Siblings.{asks_for_siblings, ask_for_siblings}
use Rattle.sharing_model.specs.Twin.{IsTwin, is_twin}
use Rattle.sharing_model.specs.Share.{Share, may_serve, serving, found, placed, put_first}
use Rattle.sharing_model.proofs.ToldLemmas.{twin_tells}

-- which selectors ask for siblings

abbrev one : Simple → Compound
one test = with_test (simple test) any

abbrev tag : Characters → Compound
tag name = one (type_selector name)

abbrev never : Selector → Compound
never selector = with_test (not_some (more selector no_more)) any

-- `p + i`, `:not(:empty)`, `i:only-child`, `:where(:not(a ~ b)) c`
asking : map asks_for_siblings
    (combined (tag (codes "i")) next_sibling (subject (tag (codes "p"))) ∷ subject (never (subject (one empty)))
    ∷ subject (with_test (simple (type_selector (codes "i"))) (one (only false)))
    ∷ combined (tag (codes "c")) descendant
    (subject (with_test (where_some (more (subject (never (combined (tag (codes "b")) later_sibling (subject (tag (codes "a")))))) no_more)) any)) ∷ [])
    ≡ true ∷ true ∷ true ∷ true ∷ []
asking = refl

-- `:root > p`, `[k]`, `p:hover`, `:not(.a) b`
abbrev others : List Selector
others =
    combined (tag (codes "p")) child (subject (one root)) ∷ subject (one (attribute_selector (codes "k")))
    ∷ subject (with_test (simple (type_selector (codes "p"))) (one (in_state hover_state)))
    ∷ combined (tag (codes "b")) descendant (subject (never (subject (one (class_selector (codes "a")))))) ∷ []

not_asking : ask_for_siblings (others ∷ [] ∷ []) ≡ false
not_asking = refl

one_asks : ask_for_siblings (others ∷ (subject (one empty) ∷ []) ∷ []) ≡ true
one_asks = refl

-- which elements are twins

abbrev at_rest : States
at_rest = record { hover = false; active = false; focus = false }

abbrev element : ℕ → Option ℕ → Characters → Attributes → Element
element number parent name attrs = record { number = number; parent = parent; tag = name; attrs = attrs; states = at_rest }

-- `html`; in it `p`, `i` and `b`, again `p` and `i`, `b` with a hover; `i` in the first `p`
abbrev document : List Element
document =
    element 1 None (codes "html") maps.empty ∷ element 2 (Some 1) (codes "p") maps.empty ∷ element 8 (Some 2) (codes "i") maps.empty
    ∷ element 3 (Some 1) (codes "i") maps.empty ∷ element 4 (Some 1) (codes "b") maps.empty ∷ element 5 (Some 1) (codes "p") maps.empty
    ∷ element 6 (Some 1) (codes "i") maps.empty
    ∷ record (element 7 (Some 1) (codes "b") maps.empty) { states = record at_rest { hover = true } } ∷ []

-- the same tag; a number that is no element's; the root; another tag, parent or state
by_the_rest : map (λ y. is_twin document y 6) (3 ∷ 6 ∷ 9 ∷ 1 ∷ 2 ∷ 8 ∷ []) ≡ true ∷ true ∷ false ∷ false ∷ false ∷ false ∷ []
by_the_rest = simp (entries-empty Characters)

root_has_none : is_twin document 1 1 ≡ false
root_has_none = refl

by_states : is_twin document 4 7 ≡ false
by_states = simp (entries-empty Characters)

-- two `p` with the class `a`, and one with the class `b`
abbrev with_classes : List Element
with_classes =
    element 1 None (codes "html") maps.empty ∷ element 2 (Some 1) (codes "p") (attributes ((codes "class", codes "a") ∷ []))
    ∷ element 3 (Some 1) (codes "p") (attributes ((codes "class", codes "a") ∷ []))
    ∷ element 4 (Some 1) (codes "p") (attributes ((codes "class", codes "b") ∷ [])) ∷ []

same_value : is_twin with_classes 3 2 ≡ true
same_value = twin_tells with_classes 3 2 (record { there = refl; here = refl; parent = (1, refl, refl); tag = refl; attributes = refl; states = λ state. refl })

other_value : IsTwin with_classes 4 2 → ⊥
other_value t =
    true≢false (ap (λ o. option_map_or (λ text. same_text text (codes "b")) o false)
    (sym (get_pairs ((codes "class", codes "b") ∷ []) (codes "class")) ∙ (ap (λ a. maps.get a (codes "class")) t.attributes
    ∙ get_pairs ((codes "class", codes "a") ∷ []) (codes "class"))))

-- what is kept

abbrev empty_share : ℕ → Share
empty_share size = record { size = size; serves = true; entries = [] }

module _ (a b c : Style) where
  -- those of 3 and of 2
  abbrev two : Share
  two = placed document 3 b (placed document 2 a (empty_share 2))

  both_are_kept : two.entries ≡ (3, b) ∷ (2, a) ∷ []
  both_are_kept = refl

  -- 2's twin looks, and 4's style takes the place of 3's
  abbrev later : Share
  later = placed document 4 c (found document 5 two)

  last_used_first : later.entries ≡ (4, c) ∷ (2, a) ∷ []
  last_used_first = simp (entries-empty Characters)

  who_is_served : map (λ x. serving document x later) (6 ∷ 5 ∷ 7 ∷ 1 ∷ []) ≡ None ∷ Some (2, a) ∷ None ∷ None ∷ []
  who_is_served = simp (entries-empty Characters)

  -- a twin's style takes the place of 2's, and drops none
  of_a_twin : (placed document 5 c two).entries ≡ (2, c) ∷ (3, b) ∷ []
  of_a_twin = simp (entries-empty Characters)

  -- so does an element's own, without a look
  of_itself : (put_first (2, c) two).entries ≡ (2, c) ∷ (3, b) ∷ []
  of_itself = refl

  of_sizes_0_and_1 : map (λ size. (placed document 3 b (placed document 2 a (empty_share size))).entries) (0 ∷ 1 ∷ []) ≡ [] ∷ ((3, b) ∷ []) ∷ []
  of_sizes_0_and_1 = refl

  -- where rules ask for siblings none is served
  none_serves : serving document 5 (record two { serves = false }) ≡ None
  none_serves = refl

who_may_serve : map may_serve (empty_share 0 ∷ empty_share 1 ∷ record (empty_share 1) { serves = false } ∷ []) ≡ false ∷ true ∷ false ∷ []
who_may_serve = refl
