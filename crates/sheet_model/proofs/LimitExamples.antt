-- How deep lists may be nested and how many compounds a selector may have, on small texts.
use Rattle.std.proofs.Common.{◌≡◌, ℕ, zero, suc, List, [], ◌∷◌, ◌++◌, Option, Some, None, refl}
use Rattle.std.specs.Prelude.{codes}
use Rattle.base_model.specs.Text.{Characters}
use Rattle.syntax_model.specs.TokensIn.{tokens_in}
use Rattle.selector_model.specs.Selector.{descendant, Selector, Selectors, subject, combined, any, with_test, simple}
use Rattle.selector_model.specs.Selector.{type_selector, is_some, not_some, no_more, more}
use Rattle.sheet_model.specs.AttributeIn.{attribute_in}
use Rattle.sheet_model.specs.AnPlusB.{an_plus_b_in}
use Rattle.sheet_model.specs.SelectorsIn.{selectors_in}

-- a text so often
abbrev times : ℕ → Characters → Characters
times zero text = []
times (suc n) text = text ++ times n text

abbrev read : Characters → Option (List Selector)
read text = selectors_in (tokens_in text)

abbrev p : Selector
p = subject (with_test (simple (type_selector (codes "p"))) any)

-- so many `:is` around a list, and so many `:not`
abbrev in_is : ℕ → Selectors → Selectors
in_is zero list = list
in_is (suc n) list = more (subject (with_test (is_some (in_is n list)) any)) no_more

abbrev in_not : ℕ → Selector → Selector
in_not zero selector = selector
in_not (suc n) selector = subject (with_test (not_some (more (in_not n selector) no_more)) any)

sixteen_is : read (times 16 (codes ":is(") ++ codes "p")
    ≡ Some (subject (with_test (is_some (in_is 15 (more p no_more))) any) ∷ [])
unfolding selectors_in attribute_in an_plus_b_in tokens_in
sixteen_is = refl

-- the innermost goes, and the one around it stays without members
seventeen_is : read (times 17 (codes ":is(") ++ codes "p")
    ≡ Some (subject (with_test (is_some (in_is 15 no_more)) any) ∷ [])
unfolding selectors_in attribute_in an_plus_b_in tokens_in
seventeen_is = refl

sixteen_not : read (times 16 (codes ":not(") ++ codes "p") ≡ Some (in_not 16 p ∷ [])
unfolding selectors_in attribute_in an_plus_b_in tokens_in
sixteen_not = refl

seventeen_not : read (times 17 (codes ":not(") ++ codes "p") ≡ None
unfolding selectors_in attribute_in an_plus_b_in tokens_in
seventeen_not = refl

-- so many with whitespace between
abbrev chain : ℕ → Selector
chain zero = p
chain (suc n) = combined (with_test (simple (type_selector (codes "p"))) any) descendant (chain n)

sixty_four : read (times 64 (codes "p ")) ≡ Some (chain 63 ∷ [])
unfolding selectors_in attribute_in an_plus_b_in tokens_in
sixty_four = refl

sixty_five : read (times 65 (codes "p ")) ≡ None
unfolding selectors_in attribute_in an_plus_b_in tokens_in
sixty_five = refl

abbrev members : ℕ → Selectors
members zero = no_more
members (suc n) = more p (members n)

-- a member that is kept counts, and one that is dropped does not
sixty_three_members : read (codes ":is(" ++ times 63 (codes "p,") ++ codes "::x)")
    ≡ Some (subject (with_test (is_some (members 63)) any) ∷ [])
unfolding selectors_in attribute_in an_plus_b_in tokens_in
sixty_three_members = refl

sixty_four_members : read (codes ":is(" ++ times 63 (codes "p,") ++ codes "p)") ≡ None
unfolding selectors_in attribute_in an_plus_b_in tokens_in
sixty_four_members = refl

-- a member of too many compounds is dropped by itself
long_member : read (codes ":is(" ++ times 65 (codes "p ") ++ codes ", p)")
    ≡ Some (subject (with_test (is_some (members 1)) any) ∷ [])
unfolding selectors_in attribute_in an_plus_b_in tokens_in
long_member = refl
