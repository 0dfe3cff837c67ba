-- What takes, and what does not, computed.
use Rattle.std.proofs.Common.{◌≡◌, ℕ, true, false, List, [], ◌∷◌, map, Some, refl}
use Rattle.std.specs.Prelude.{codes}
use Rattle.base_model.specs.Text.{Characters}
use Rattle.base_model.specs.Origin.{Origin, user_agent, user}
use Rattle.syntax_model.specs.Token.{said}
use Rattle.syntax_model.specs.TokensIn.{tokens_in}
use Rattle.syntax_model.specs.Numbers.{thousandths}
use Rattle.syntax_model.specs.Wide.{Wide, inherit, initial, unset, revert, revert_layer}
use Rattle.custom_model.specs.Value.{CustomValue}
use Rattle.custom_model.specs.Parts.{parts}
use Rattle.custom_model.specs.Expand.{Lookup, expansion}
use Rattle.value_model.specs.Value.{current_color}
use Rattle.value_model.specs.Table.{table, color_property, width_property, clear_property, margin_top_property}
use Rattle.value_model.specs.Shorthand.{margin, all, longhands_of}
use Rattle.sheet_model.specs.ValueIn.{value_in, units}
use Rattle.sheet_model.specs.Shorthands.{single, shorthand}
use Rattle.sheet_model.specs.Declared.{Given, wide, exactly, referring}
use Rattle.cascade_model.specs.Key.{Matched}
use Rattle.cascade_model.specs.Ending.{ending_of}
use Rattle.cascade_model.proofs.ExampleCases.{word, px, red, no_custom, declares_one}
use Rattle.takes_model.specs.Takes.{takes}

abbrev tokens : Characters → CustomValue
tokens text = map said (tokens_in text)

-- where each custom property has this value
abbrev always : Characters → Lookup
always text name = Some (tokens text)

-- a property is given this
abbrev gives : Given → ℕ → Matched
gives given property = record (declares_one property red) { given = given }

-- a property is this keyword
abbrev says : Wide → ℕ → Matched
says keyword property = gives (wide keyword) property

-- each property of a shorthand is this keyword
abbrev all_say : Wide → List Matched
all_say keyword = map (says keyword) (longhands_of all)

-- `clear` is given this, in a sheet of this origin, or in this layer at this place
abbrev of_origin : Origin → Given → Matched
of_origin origin given = record (gives given clear_property) { origin = origin }

abbrev in_layer : ℕ → ℕ → Given → Matched
in_layer layer index given = record (gives given clear_property) { layer = layer; index = index }

abbrev both : Given
both = exactly (word (codes "both"))

nothing_declared : takes no_custom [] ≡ false
unfolding takes ending_of table
nothing_declared = refl

-- of the CSS-wide keywords `inherit` alone takes
of_width : map (λ keyword. takes no_custom (says keyword width_property ∷ [])) (inherit ∷ initial ∷ unset ∷ revert ∷ revert_layer ∷ []) ≡ true ∷ false ∷ false ∷ false ∷ false ∷ []
unfolding takes ending_of table
of_width = refl

-- and at a property that is not inherited
of_color : map (λ keyword. takes no_custom (says keyword color_property ∷ [])) (inherit ∷ initial ∷ unset ∷ revert ∷ revert_layer ∷ []) ≡ false ∷ false ∷ false ∷ false ∷ false ∷ []
unfolding takes ending_of table
of_color = refl

-- `currentcolor` is the parent's colour, which is inherited
of_current_color : takes no_custom (declares_one color_property current_color ∷ []) ≡ false
unfolding takes ending_of table
of_current_color = refl

of_a_value : takes no_custom (declares_one width_property (px 1) ∷ []) ≡ false
unfolding takes ending_of table
of_a_value = refl

-- one that takes among others
abbrev lists : List (List Matched)
lists =
    (declares_one width_property (px 1) ∷ says inherit margin_top_property ∷ [])
    ∷ (says inherit margin_top_property ∷ says inherit color_property ∷ [])
    ∷ (says unset width_property ∷ says inherit color_property ∷ []) ∷ []

among_others : map (takes no_custom) lists ≡ true ∷ true ∷ false ∷ []
unfolding takes ending_of table
among_others = refl

-- `all: inherit`, and `all` with each other keyword
of_all : map (λ keyword. takes no_custom (all_say keyword)) (inherit ∷ initial ∷ unset ∷ revert ∷ revert_layer ∷ []) ≡ true ∷ false ∷ false ∷ false ∷ false ∷ []
unfolding takes ending_of table
of_all = refl

-- `inherit` loses to what wins over it
beaten : map (takes no_custom) ((of_origin user_agent (wide inherit) ∷ of_origin user both ∷ []) ∷ (in_layer 2 0 both ∷ in_layer 1 1 (wide inherit) ∷ []) ∷ []) ≡ false ∷ false ∷ []
unfolding takes ending_of table
beaten = refl

-- `revert` and `revert-layer` take where what is left comes to `inherit`, and not where it comes to a value or to nothing
abbrev reverting : List (List Matched)
reverting =
    (of_origin user (wide revert) ∷ of_origin user_agent (wide inherit) ∷ [])
    ∷ (of_origin user (wide revert) ∷ of_origin user (wide inherit) ∷ [])
    ∷ (in_layer 2 0 both ∷ in_layer 1 1 (wide inherit) ∷ in_layer 2 2 (wide revert_layer) ∷ [])
    ∷ (in_layer 1 0 both ∷ in_layer 2 1 (wide revert_layer) ∷ []) ∷ []

taken_back : map (takes no_custom) reverting ≡ true ∷ false ∷ true ∷ false ∷ []
unfolding takes ending_of table
taken_back = refl

-- by this value of `width`, with `var()`
abbrev width_is : Characters → List Matched
width_is text = gives (referring (single width_property) (tokens text)) width_property ∷ []

abbrev margin_is : Characters → List Matched
margin_is text = map (gives (referring (shorthand margin) (tokens text))) (longhands_of margin)

-- `inherit` takes that comes by substitution, and a `var()` that fails does not
abbrev lookups : List Lookup
lookups =
    no_custom ∷ always (codes "inherit") ∷ always (codes "1px") ∷ always (codes "red") ∷ always (codes "unset") ∷ []

substituted : map (λ values. takes values (width_is (codes "var(--q)"))) lookups ≡ false ∷ true ∷ false ∷ false ∷ false ∷ []
unfolding takes ending_of expansion parts tokens_in value_in table units thousandths
substituted = refl

a_fallback : map (λ values. takes values (width_is (codes "var(--q, inherit)"))) (no_custom ∷ always (codes "1px") ∷ []) ≡ true ∷ false ∷ []
unfolding takes ending_of expansion parts tokens_in value_in table units thousandths
a_fallback = refl

of_margin : map (λ values. takes values (margin_is (codes "var(--q, inherit)"))) (no_custom ∷ always (codes "1px") ∷ []) ≡ true ∷ false ∷ []
unfolding takes ending_of expansion parts tokens_in value_in table units thousandths
of_margin = refl
