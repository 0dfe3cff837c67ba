-- The grammar of selectors computed on small texts.
use Rattle.std.proofs.Common.{◌≡◌, ℤ, pos, Bool, true, false, List, [], ◌∷◌, ◌++◌, map, Some, None, refl}
use Rattle.std.specs.Prelude.{codes, neg_ℤ}
use Rattle.base_model.specs.State.{hover_state, active_state, focus_state}
use Rattle.base_model.specs.Text.{Characters}
use Rattle.syntax_model.specs.TokensIn.{tokens_in}
use Rattle.selector_model.specs.Selector.{AttributeOperator, equals, includes, dash_match, prefix, suffix, substring}
use Rattle.selector_model.specs.Selector.{descendant, child, next_sibling, later_sibling, Selector, subject, combined}
use Rattle.selector_model.specs.Selector.{any, Test, simple, is_some, where_some, not_some, no_more}
use Rattle.selector_model.specs.Selector.{type_selector, id_selector, class_selector, attribute_selector}
use Rattle.selector_model.specs.Selector.{attribute_compares, root, empty, only, in_state}
use Rattle.sheet_model.specs.AnPlusB.{an_plus_b_in, formula}
use Rattle.sheet_model.specs.AttributeIn.{attribute_in}
use Rattle.sheet_model.specs.SelectorsIn.{before, indexed, listed, selectors_in}

abbrev kind : Characters → Test
kind name = simple (type_selector name)

abbrev id : Characters → Test
id name = simple (id_selector name)

abbrev class : Characters → Test
class name = simple (class_selector name)

abbrev has : Characters → Test
has name = simple (attribute_selector name)

abbrev compares : Characters → AttributeOperator → Characters → Bool → Test
compares name operator value case_counts = simple (attribute_compares name operator value case_counts)

abbrev index : ℤ → ℤ → Bool → Bool → Test
index a b from_last of_type = simple (indexed from_last of_type (formula a b))

abbrev alone : List Test → Selector
alone tests = subject (before tests any)

abbrev below : List Test → Selector → Selector
below tests left = combined (before tests any) descendant left

abbrev inside_of : List Test → Selector → Selector
inside_of tests left = combined (before tests any) child left

abbrev after : List Test → Selector → Selector
after tests left = combined (before tests any) next_sibling left

abbrev later : List Test → Selector → Selector
later tests left = combined (before tests any) later_sibling left

-- each text is this list of selectors
abbrev AreRead : List (Characters × List Selector) → Type 0
AreRead rows = map (λ row. selectors_in (tokens_in row.0)) rows ≡ map (λ row. Some row.1) rows

accepted : AreRead (
    (codes "html", alone (kind (codes "html") ∷ []) ∷ [])
    ∷ (codes "*", alone ([]) ∷ [])
    ∷ (codes ".a", alone (class (codes "a") ∷ []) ∷ [])
    ∷ (codes "a.b.c", alone (kind (codes "a") ∷ class (codes "b") ∷ class (codes "c") ∷ []) ∷ [])
    ∷ (codes "*.a", alone (class (codes "a") ∷ []) ∷ [])
    ∷ (codes "a,b", alone (kind (codes "a") ∷ []) ∷ alone (kind (codes "b") ∷ []) ∷ [])
    ∷ (codes " a , *.b.c , .d ", alone (kind (codes "a") ∷ []) ∷ alone (class (codes "b") ∷ class (codes "c") ∷ []) ∷ alone (class (codes "d") ∷ []) ∷ [])
    ∷ (codes "-a.--b", alone (kind (codes "-a") ∷ class (codes "--b") ∷ []) ∷ [])
    ∷ (codes "p.B.a", alone (kind (codes "p") ∷ class (codes "B") ∷ class (codes "a") ∷ []) ∷ [])
    ∷ (codes "#n", alone (id (codes "n") ∷ []) ∷ [])
    ∷ (codes "p#n.a#m", alone (kind (codes "p") ∷ id (codes "n") ∷ class (codes "a") ∷ id (codes "m") ∷ []) ∷ [])
    ∷ (codes "#-n", alone (id (codes "-n") ∷ []) ∷ [])
    ∷ (codes "a b", below (kind (codes "b") ∷ []) (alone (kind (codes "a") ∷ [])) ∷ [])
    ∷ (codes "a>b", inside_of (kind (codes "b") ∷ []) (alone (kind (codes "a") ∷ [])) ∷ [])
    ∷ (codes "a > b", inside_of (kind (codes "b") ∷ []) (alone (kind (codes "a") ∷ [])) ∷ [])
    ∷ (codes "a + b", after (kind (codes "b") ∷ []) (alone (kind (codes "a") ∷ [])) ∷ [])
    ∷ (codes "a~b", later (kind (codes "b") ∷ []) (alone (kind (codes "a") ∷ [])) ∷ [])
    ∷ (codes "a b > i", inside_of (kind (codes "i") ∷ []) (below (kind (codes "b") ∷ []) (alone (kind (codes "a") ∷ []))) ∷ [])
    ∷ (codes "p/**/.a > /**/p", inside_of (kind (codes "p") ∷ []) (alone (kind (codes "p") ∷ class (codes "a") ∷ [])) ∷ [])
    ∷ (codes "p/**/ /**/i", below (kind (codes "i") ∷ []) (alone (kind (codes "p") ∷ [])) ∷ [])
    ∷ (codes "* *", below ([]) (alone ([])) ∷ [])
    ∷ (codes "[k]", alone (has (codes "k") ∷ []) ∷ [])
    ∷ (codes "p[ k ]", alone (kind (codes "p") ∷ has (codes "k") ∷ []) ∷ [])
    ∷ (codes "[k=v]", alone (compares (codes "k") equals (codes "v") true ∷ []) ∷ [])
    ∷ (codes "[k~='v w']", alone (compares (codes "k") includes (codes "v w") true ∷ []) ∷ [])
    ∷ (codes "[k|=v]", alone (compares (codes "k") dash_match (codes "v") true ∷ []) ∷ [])
    ∷ (codes "[k^=v]", alone (compares (codes "k") prefix (codes "v") true ∷ []) ∷ [])
    ∷ (codes "[k$=v]", alone (compares (codes "k") suffix (codes "v") true ∷ []) ∷ [])
    ∷ [])
unfolding selectors_in attribute_in an_plus_b_in tokens_in
accepted = refl

accepted_functions : AreRead (
    (codes "[ k *= v ]", alone (compares (codes "k") substring (codes "v") true ∷ []) ∷ [])
    ∷ (codes "[k='']", alone (compares (codes "k") equals [] true ∷ []) ∷ [])
    ∷ (codes "[k=v i]", alone (compares (codes "k") equals (codes "v") false ∷ []) ∷ [])
    ∷ (codes "[k='a-B'I]", alone (compares (codes "k") equals (codes "a-B") false ∷ []) ∷ [])
    ∷ (codes "[k=v S]", alone (compares (codes "k") equals (codes "v") true ∷ []) ∷ [])
    ∷ (codes "[K=i]", alone (compares (codes "K") equals (codes "i") true ∷ []) ∷ [])
    ∷ (codes "[k='x,y'], :is(a, b) i", alone (compares (codes "k") equals (codes "x,y") true ∷ []) ∷ below (kind (codes "i") ∷ []) (alone (is_some (listed (alone (kind (codes "a") ∷ []) ∷ alone (kind (codes "b") ∷ []) ∷ [])) ∷ [])) ∷ [])
    ∷ (codes "[k", alone (has (codes "k") ∷ []) ∷ [])
    ∷ (codes ":root", alone (simple root ∷ []) ∷ [])
    ∷ (codes "p:EMPTY", alone (kind (codes "p") ∷ simple empty ∷ []) ∷ [])
    ∷ (codes ":first-child:last-child", alone (index (pos 0) (pos 1) false false ∷ index (pos 0) (pos 1) true false ∷ []) ∷ [])
    ∷ (codes ":first-of-type:last-of-type", alone (index (pos 0) (pos 1) false true ∷ index (pos 0) (pos 1) true true ∷ []) ∷ [])
    ∷ (codes ":only-child:only-of-type", alone (simple (only false) ∷ simple (only true) ∷ []) ∷ [])
    ∷ (codes "i:hover:active:focus", alone (kind (codes "i") ∷ simple (in_state hover_state) ∷ simple (in_state active_state) ∷ simple (in_state focus_state) ∷ []) ∷ [])
    ∷ (codes ":nth-child( 2N- 1 )", alone (index (pos 2) (neg_ℤ (pos 1)) false false ∷ []) ∷ [])
    ∷ (codes ":nth-last-child(even)", alone (index (pos 2) (pos 0) true false ∷ []) ∷ [])
    ∷ (codes "p:nth-of-type(3)", alone (kind (codes "p") ∷ index (pos 0) (pos 3) false true ∷ []) ∷ [])
    ∷ (codes "p:nth-last-of-type(-2n + 3)", alone (kind (codes "p") ∷ index (neg_ℤ (pos 2)) (pos 3) true true ∷ []) ∷ [])
    ∷ (codes ":nth-child(n", alone (index (pos 1) (pos 0) false false ∷ []) ∷ [])
    ∷ (codes ":is()", alone (is_some (no_more) ∷ []) ∷ [])
    ∷ (codes ":where( )", alone (where_some (no_more) ∷ []) ∷ [])
    ∷ (codes ":is(a,,b)", alone (is_some (listed (alone (kind (codes "a") ∷ []) ∷ alone (kind (codes "b") ∷ []) ∷ [])) ∷ []) ∷ [])
    ∷ (codes ":is(a ", alone (is_some (listed (alone (kind (codes "a") ∷ []) ∷ [])) ∷ []) ∷ [])
    ∷ (codes ":IS(p:not(::x), i)", alone (is_some (listed (alone (kind (codes "i") ∷ []) ∷ [])) ∷ []) ∷ [])
    ∷ (codes ":not(:is(::x))", alone (not_some (listed (alone (is_some (no_more) ∷ []) ∷ [])) ∷ []) ∷ [])
    ∷ (codes ":not(p > i, .a)", alone (not_some (listed (inside_of (kind (codes "i") ∷ []) (alone (kind (codes "p") ∷ [])) ∷ alone (class (codes "a") ∷ []) ∷ [])) ∷ []) ∷ [])
    ∷ (codes ":where(#n:not(p))", alone (where_some (listed (alone (id (codes "n") ∷ not_some (listed (alone (kind (codes "p") ∷ []) ∷ [])) ∷ []) ∷ [])) ∷ []) ∷ [])
    ∷ (codes ":is(:has(a), b):is(i)", alone (is_some (listed (alone (kind (codes "b") ∷ []) ∷ [])) ∷ is_some (listed (alone (kind (codes "i") ∷ []) ∷ [])) ∷ []) ∷ [])
    ∷ [])
unfolding selectors_in attribute_in an_plus_b_in tokens_in
accepted_functions = refl

-- a name beyond ASCII
accepted_letters : AreRead ((233 ∷ codes "." ++ 233 ∷ [], alone (kind (233 ∷ []) ∷ class (233 ∷ []) ∷ []) ∷ []) ∷ [])
unfolding selectors_in attribute_in an_plus_b_in tokens_in
accepted_letters = refl

-- each text is none
abbrev AreRefused : List Characters → Type 0
AreRefused texts = map (λ text. selectors_in (tokens_in text)) texts ≡ map (λ text. None) texts

refused : AreRefused (
    ([])
    ∷ (codes " ")
    ∷ (codes ",")
    ∷ (codes "a,")
    ∷ (codes ",a")
    ∷ (codes "a,,b")
    ∷ (codes "a, ,b")
    ∷ (codes "a,{")
    ∷ (codes ".")
    ∷ (codes "..a")
    ∷ (codes "a.")
    ∷ (codes "a..b")
    ∷ (codes ". a")
    ∷ (codes "a. b")
    ∷ (codes "a*")
    ∷ (codes "**")
    ∷ (codes "*a")
    ∷ (codes "a:b")
    ∷ (codes "(a)")
    ∷ (codes "1")
    ∷ (codes "a.1")
    ∷ (codes "> a")
    ∷ (codes "a >")
    ∷ (codes "a > > b")
    ∷ (codes "a + ~ b")
    ∷ (codes "a >, b")
    ∷ (codes "#")
    ∷ (codes "#1")
    ∷ (codes "# n")
    ∷ (codes "#n#")
    ∷ (codes "a::before")
    ∷ (codes "::x")
    ∷ (codes ":")
    ∷ (codes "a:")
    ∷ (codes ": root")
    ∷ (codes ":root()")
    ∷ (codes ":is")
    ∷ (codes ":not")
    ∷ (codes ":nth-child")
    ∷ (codes ":has(a)")
    ∷ (codes ":not()")
    ∷ (codes ":not(p, ::x)")
    ∷ (codes ":not(p,)")
    ∷ (codes ":not(::x), p")
    ∷ (codes ":nth-child()")
    ∷ (codes ":nth-child(n of p)")
    ∷ (codes ":nth-child(2n 1)")
    ∷ (codes ":hover(a)")
    ∷ (codes "[a ~ = x]")
    ∷ (codes "[a,b]")
    ∷ (codes "[]")
    ∷ (codes "[a=]")
    ∷ (codes "[a=1]")
    ∷ (codes "[a=v x]")
    ∷ (codes "[a=v i s]")
    ∷ (codes "[a b]")
    ∷ (codes "[.a]")
    ∷ (codes "[a==v]")
    ∷ (codes "[a!=v]")
    ∷ (codes "a|b")
    ∷ (codes "*|a")
    ∷ (codes "|a")
    ∷ [])
unfolding selectors_in attribute_in an_plus_b_in tokens_in
refused = refl
