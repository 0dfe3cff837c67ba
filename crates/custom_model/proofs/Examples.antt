-- The definitions computed on small values.
use Rattle.std.proofs.Common.{◌≡◌, List, [], ◌∷◌, map, Option, Some, refl}
use Rattle.std.specs.Prelude.{codes, find, option_map}
use Rattle.std.specs.Option.{option_map_or}
use Rattle.std.specs.FinMap as finmap
use Rattle.std.specs.FinMap.{gets}
use Rattle.base_model.specs.Text.{Characters, same_text}
use Rattle.syntax_model.specs.Token.{said}
use Rattle.syntax_model.specs.Preprocess.{preprocessed}
use Rattle.syntax_model.specs.TokensIn.{tokens_in}
use Rattle.syntax_model.specs.Written.{written}
use Rattle.syntax_model.proofs.ExampleCases.{Case, case, others}
use Rattle.custom_model.specs.Value.{CustomValue, normal}
use Rattle.custom_model.specs.Parts.{parts, references_in}
use Rattle.custom_model.specs.Expand.{Lookup, expansion}
use Rattle.custom_model.specs.Cycles.{DeclaredValues, is_cyclic}
use Rattle.custom_model.specs.Computed.{computed}
use Rattle.custom_model.specs.Printed.{value_text}

-- what is kept of a text
abbrev custom_value_of : Characters → CustomValue
custom_value_of text = normal (map said (tokens_in (preprocessed text)))

-- a value, or nothing, as it is shown
abbrev shown : Option CustomValue → Characters
shown value = option_map_or value_text value (codes "<invalid>")

-- what is known of custom properties
abbrev known : List Case
known = case "--e" "" ∷ case "--b" "x y" ∷ case "--C" "1px" ∷ []

abbrev values : Lookup
values name = option_map (λ c. custom_value_of c.wanted) (find (λ c. same_text c.text name) known)

abbrev expanded_text : Characters → Characters
expanded_text text = shown (expansion values (map said (tokens_in (preprocessed text))))

abbrev expansions : List Case
expansions =
    case "a" "a"
    ∷ case "  a /**/  b " "a b"
    ∷ case "" ""
    ∷ case "var(--b)" "x y"
    ∷ case "VAR(\n--b )" "x y"
    ∷ case "v\\61r(--b)" "x y"
    ∷ case "var(--C)var(--C)" "1px/**/1px"
    ∷ case "var(--c)" "<invalid>"
    ∷ case "var(--u,)" ""
    ∷ case "var(--u , z)" "z"
    ∷ case "var(--b, z)" "x y"
    ∷ case "var(--b, var(--u))" "x y"
    ∷ case "var(--u, var(--v, var(--b)))" "x y"
    ∷ case "a var(--u, b var(--e) )c" "a b/**/c"
    ∷ case "a var(--e) var(--e)b" "a b"
    ∷ case "( var(--e) )" "( )"
    ∷ case "var(--e) a var(--e)" "a"
    ∷ case "-var(--b)" "-var(--b)"
    ∷ case "f(var(--b), [var(--u, {;!})])" "f(x y, [{;!}])"
    ∷ case "var(--u, (;))" "(;)"
    ∷ case "x!y" "<invalid>"
    ∷ case "x;y" "<invalid>"
    ∷ case "]" "<invalid>"
    ∷ case "([)" "<invalid>"
    ∷ case "url(a b)" "<invalid>"
    ∷ case "\"a\n" "<invalid>"
    ∷ case "a \\\n" "<invalid>"
    ∷ case "var(a)" "<invalid>"
    ∷ case "var(--)" "<invalid>"
    ∷ case "var()" "<invalid>"
    ∷ case "var(--b c)" "<invalid>"
    ∷ case "var(--b" "<invalid>"
    ∷ case "var(--b,!)" "<invalid>"
    ∷ case "var(--b,;)" "<invalid>"
    ∷ case "var(--b,])" "<invalid>"
    ∷ case "var(--b,(])" "<invalid>"
    ∷ case "var(--b, var(c))" "<invalid>"
    ∷ []

expanded_as_wanted : others expanded_text expansions ≡ []
unfolding expansion parts tokens_in written
expanded_as_wanted = refl

-- all names that a value refers to, in fallbacks too
all_names : references_in (custom_value_of (codes "var(--b, var(--c) (var(--d,))) var(--b)")) ≡ codes "--b" ∷ codes "--c" ∷ codes "--d" ∷ codes "--b" ∷ []
unfolding parts tokens_in
all_names = refl

abbrev declared : List Case → DeclaredValues
declared cases = finmap.from_entries (map (λ c. (c.text, Some (custom_value_of c.wanted))) cases)

abbrev computed_of : List Case → Characters → Characters
computed_of cases name = shown (computed (declared cases) finmap.empty name)

-- two names refer to each other, one in a fallback
abbrev around : List Case
around = case "--a" "var(--b, 1px)" ∷ case "--b" "var(--c, var(--a))" ∷ case "--c" "2px" ∷ []

around_a_cycle : map (computed_of around) (codes "--a" ∷ codes "--b" ∷ codes "--c" ∷ codes "--d" ∷ []) ≡ codes "<invalid>" ∷ codes "<invalid>" ∷ codes "2px" ∷ codes "<invalid>" ∷ []
unfolding computed is_cyclic expansion parts tokens_in written
around_a_cycle = simp gets
