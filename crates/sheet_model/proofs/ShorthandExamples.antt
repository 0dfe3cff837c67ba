-- How the values of shorthands are split, and what they declare, computed.
use Rattle.std.proofs.Common.{◌≡◌, ℕ, true, false, List, [], ◌∷◌, ◌++◌, map, length, replicate, Option, Some, None, refl}
use Rattle.std.specs.Prelude.{codes, pos, ◌*◌, option_map, zip}
use Rattle.base_model.specs.Text.{Characters}
use Rattle.syntax_model.specs.Token.{said}
use Rattle.syntax_model.specs.Numbers.{thousandths}
use Rattle.syntax_model.specs.TokensIn.{tokens_in}
use Rattle.syntax_model.specs.RulesIn.{declarations_in}
use Rattle.syntax_model.specs.Wide.{inherit, initial, unset, revert_layer}
use Rattle.syntax_model.proofs.ExampleCases.{spelled}
use Rattle.custom_model.specs.Value.{CustomValue}
use Rattle.custom_model.specs.Parts.{parts}
use Rattle.value_model.specs.Color.{opaque, named_colors}
use Rattle.value_model.specs.Value.{Value, keyword, color, pixels, percent, em, current_color}
use Rattle.value_model.specs.Table.{table, margin_top_property, margin_right_property, margin_bottom_property}
use Rattle.value_model.specs.Table.{margin_left_property, padding_top_property, padding_left_property}
use Rattle.value_model.specs.Shorthand.{Short, margin, padding, border_width, border_style, border_color}
use Rattle.value_model.specs.Shorthand.{overflow, all, longhands_of}
use Rattle.sheet_model.specs.ValueIn.{value_in, units}
use Rattle.sheet_model.specs.Shorthands.{single, shorthand, slices, split, value_for}
use Rattle.sheet_model.specs.Declared.{longhand, custom, Given, wide, referring, holding, Declared, style_declared}
use Rattle.sheet_model.proofs.ExampleCases.{declares, minus}

-- the text of each slice
abbrev cuts : Characters → List Characters
cuts text = map spelled (slices (tokens_in text))

-- and of the part for each property
abbrev splits : Short → Characters → Option (List Characters)
splits short text = option_map (map spelled) (split short (tokens_in text))

one_slice : map cuts (codes "1px" ∷ codes "  1px " ∷ codes "1px/**/2px" ∷ codes "rgb(1, 2, 3)" ∷ codes "[a b] " ∷ codes "{a b}" ∷ codes "(1px 2px" ∷ codes "/**/1px/**/" ∷ []) ≡ map (λ text. text ∷ []) (codes "1px" ∷ codes "1px" ∷ codes "1px2px" ∷ codes "rgb(1, 2, 3)" ∷ codes "[a b]" ∷ codes "{a b}" ∷ codes "(1px 2px" ∷ codes "1px" ∷ [])
unfolding tokens_in
one_slice = refl

-- a slice of two tokens
two_tokens : map (λ slice. map said slice) (slices (tokens_in (codes "1px/**/2px"))) ≡ map said (tokens_in (codes "1px") ++ tokens_in (codes "2px")) ∷ []
unfolding tokens_in
two_tokens = refl

more_slices : map cuts (codes "1px 2px" ∷ codes "1px\t\n2px" ∷ codes "1px/**/ /**/2px" ∷ codes "rgb(1, 2, 3) red" ∷ codes "(a b)(c d) e" ∷ codes "1px ) 2px" ∷ codes "1px, 2px" ∷ codes "a b c d e" ∷ []) ≡ (codes "1px" ∷ codes "2px" ∷ []) ∷ (codes "1px" ∷ codes "2px" ∷ []) ∷ (codes "1px" ∷ codes "2px" ∷ []) ∷ (codes "rgb(1, 2, 3)" ∷ codes "red" ∷ []) ∷ (codes "(a b)(c d)" ∷ codes "e" ∷ []) ∷ (codes "1px" ∷ codes ")" ∷ codes "2px" ∷ []) ∷ (codes "1px," ∷ codes "2px" ∷ []) ∷ (codes "a" ∷ codes "b" ∷ codes "c" ∷ codes "d" ∷ codes "e" ∷ []) ∷ []
unfolding tokens_in
more_slices = refl

no_slices : map cuts ([] ∷ codes " " ∷ codes " /**/ " ∷ []) ≡ [] ∷ [] ∷ [] ∷ []
unfolding tokens_in
no_slices = refl

-- top, right, bottom and left
four_sides : map (splits margin) (codes "a" ∷ codes "a b" ∷ codes "a b c" ∷ codes "a b c d" ∷ []) ≡ map Some ((codes "a" ∷ codes "a" ∷ codes "a" ∷ codes "a" ∷ []) ∷ (codes "a" ∷ codes "b" ∷ codes "a" ∷ codes "b" ∷ []) ∷ (codes "a" ∷ codes "b" ∷ codes "c" ∷ codes "b" ∷ []) ∷ (codes "a" ∷ codes "b" ∷ codes "c" ∷ codes "d" ∷ []) ∷ [])
unfolding tokens_in
four_sides = refl

two_axes : map (splits overflow) (codes "a" ∷ codes "a b" ∷ []) ≡ map Some ((codes "a" ∷ codes "a" ∷ []) ∷ (codes "a" ∷ codes "b" ∷ []) ∷ [])
unfolding tokens_in
two_axes = refl

no_splits : splits padding [] ∷ splits border_style (codes "a b c d e") ∷ splits overflow (codes "a b c") ∷ splits overflow [] ∷ splits all (codes "a") ∷ splits all [] ∷ [] ≡ None ∷ None ∷ None ∷ None ∷ None ∷ None ∷ []
unfolding tokens_in
no_splits = refl

-- the value of one property of a shorthand
abbrev one_value : Short → ℕ → Characters → Option Value
one_value short property text = value_for (shorthand short) property (tokens_in text)

one_of_four : map (λ property. one_value margin property (codes "1px 2px 3px")) (margin_top_property ∷ margin_right_property ∷ margin_bottom_property ∷ margin_left_property ∷ padding_top_property ∷ []) ≡ Some (pixels (pos 1_000)) ∷ Some (pixels (pos 2_000)) ∷ Some (pixels (pos 3_000)) ∷ Some (pixels (pos 2_000)) ∷ None ∷ []
unfolding tokens_in value_in table units thousandths
one_of_four = refl

-- where one part is not taken, none is
none_of_four : one_value padding padding_top_property (codes "1px -1px") ≡ None
unfolding tokens_in value_in table units thousandths
none_of_four = refl

-- Declarations that give several properties a value.
abbrev all_declare : List ℕ → List Value → List Declared
all_declare properties values = map (λ (pair : ℕ × Value). declares pair.0 pair.1) (zip properties values)

-- each of these properties is given the same
abbrev all_given : List ℕ → Given → List Declared
all_given properties given =
    map (λ property. record { target = longhand property; given = given; important = false }) properties

abbrev importantly : Declared → Declared
importantly d = record d { important = true }

abbrev px : ℕ → Value
px n = pixels (pos (1000 * n))

abbrev word : Characters → Value
word text = keyword text

abbrev margins : List ℕ
margins = longhands_of margin

abbrev all_but_direction : List ℕ
all_but_direction = longhands_of all

abbrev tokens : Characters → CustomValue
tokens text = map said (tokens_in text)

two_margins : style_declared (codes "margin:1px 2px") ≡ all_declare margins (px 1 ∷ px 2 ∷ px 1 ∷ px 2 ∷ [])
unfolding style_declared declarations_in tokens_in value_in table units thousandths parts named_colors
two_margins = refl

four_margins : style_declared (codes "MARGIN: 0 -1px auto 5% ") ≡ all_declare margins (px 0 ∷ pixels (minus 1_000) ∷ word (codes "auto") ∷ percent (pos 5_000) ∷ [])
unfolding style_declared declarations_in tokens_in value_in table units thousandths parts named_colors
four_margins = refl

three_paddings : style_declared (codes "padding:1px 2em 3%") ≡ all_declare (longhands_of padding) (px 1 ∷ em (pos 2_000) ∷ percent (pos 3_000) ∷ em (pos 2_000) ∷ [])
unfolding style_declared declarations_in tokens_in value_in table units thousandths parts named_colors
three_paddings = refl

border_widths : style_declared (codes "border-width:thin 1em 0 thick") ≡ all_declare (longhands_of border_width) (px 1 ∷ em (pos 1_000) ∷ px 0 ∷ px 5 ∷ [])
unfolding style_declared declarations_in tokens_in value_in table units thousandths parts named_colors
border_widths = refl

border_styles : style_declared (codes "border-style:Solid none") ≡ all_declare (longhands_of border_style) (word (codes "solid") ∷ word (codes "none") ∷ word (codes "solid") ∷ word (codes "none") ∷ [])
unfolding style_declared declarations_in tokens_in value_in table units thousandths parts named_colors
border_styles = refl

border_colors : style_declared (codes "border-color:red rgb(1, 2, 3) currentcolor") ≡ all_declare (longhands_of border_color) (color (opaque 255 0 0) ∷ color (opaque 1 2 3) ∷ current_color ∷ color (opaque 1 2 3) ∷ [])
unfolding style_declared declarations_in tokens_in value_in table units thousandths parts named_colors
border_colors = refl

overflows : style_declared (codes "overflow:hidden") ≡ all_declare (longhands_of overflow) (word (codes "hidden") ∷ word (codes "hidden") ∷ [])
unfolding style_declared declarations_in tokens_in value_in table units thousandths parts named_colors
overflows = refl

important_overflows : style_declared (codes "overflow:hidden scroll ! important") ≡ map importantly (all_declare (longhands_of overflow) (word (codes "hidden") ∷ word (codes "scroll") ∷ []))
unfolding style_declared declarations_in tokens_in value_in table units thousandths parts named_colors
important_overflows = refl

in_their_order : style_declared (codes "padding-left:9px;padding:1px;padding-top:2px") ≡ declares padding_left_property (px 9) ∷ all_declare (longhands_of padding) (px 1 ∷ px 1 ∷ px 1 ∷ px 1 ∷ []) ++ declares padding_top_property (px 2) ∷ []
unfolding style_declared declarations_in tokens_in value_in table units thousandths parts named_colors
in_their_order = refl

-- the CSS-wide keywords, for all of the properties
inherited_margins : style_declared (codes "margin:Inherit") ≡ all_given margins (wide inherit)
unfolding style_declared declarations_in tokens_in value_in table units thousandths parts named_colors
inherited_margins = refl

rolled_back_overflows : style_declared (codes "overflow: revert-layer ") ≡ all_given (longhands_of overflow) (wide revert_layer)
unfolding style_declared declarations_in tokens_in value_in table units thousandths parts named_colors
rolled_back_overflows = refl

all_unset : style_declared (codes "all:unset") ≡ all_given all_but_direction (wide unset)
unfolding style_declared declarations_in tokens_in value_in table units thousandths parts named_colors
all_unset = refl

all_important : style_declared (codes "ALL:initial!important") ≡ map importantly (all_given all_but_direction (wide initial))
unfolding style_declared declarations_in tokens_in value_in table units thousandths parts named_colors
all_important = refl

-- values that refer to custom properties
referring_margins : style_declared (codes "margin: 1px  var(--x)") ≡ all_given margins (referring (shorthand margin) (tokens (codes "1px var(--x)")))
unfolding style_declared declarations_in tokens_in value_in table units thousandths parts named_colors
referring_margins = refl

referring_alone : style_declared (codes "margin-top:var(--x)") ≡ all_given (margin_top_property ∷ []) (referring (single margin_top_property) (tokens (codes "var(--x)")))
unfolding style_declared declarations_in tokens_in value_in table units thousandths parts named_colors
referring_alone = refl

all_referring : style_declared (codes "all:var(--x)") ≡ all_given all_but_direction (referring (shorthand all) (tokens (codes "var(--x)")))
unfolding style_declared declarations_in tokens_in value_in table units thousandths parts named_colors
all_referring = refl

-- custom properties are no shorthands
of_a_custom_property : style_declared (codes "--margin:1px 2px") ≡ record { target = custom (codes "--margin"); given = holding (tokens (codes "1px 2px")); important = false } ∷ []
unfolding style_declared declarations_in tokens_in value_in table units thousandths parts named_colors
of_a_custom_property = refl

-- what is open at the end of a text is closed
closed_at_the_end : style_declared (codes "border-color:rgb(1,2,3") ≡ all_declare (longhands_of border_color) (color (opaque 1 2 3) ∷ color (opaque 1 2 3) ∷ color (opaque 1 2 3) ∷ color (opaque 1 2 3) ∷ [])
unfolding style_declared declarations_in tokens_in value_in table units thousandths parts named_colors
closed_at_the_end = refl

-- declarations that are dropped, whole
dropped : map (λ text. length (style_declared text)) (
    codes "margin:inherit 1px" ∷ codes "margin:1px 2px 3px 4px 5px" ∷ codes "margin:" ∷ codes "margin:none"
    ∷ codes "margin:1px,2px" ∷ codes "margin:1px/2px" ∷ codes "margin:1px 2" ∷ codes "margin:1px/**/2px" ∷ codes "padding:1px -1px"
    ∷ codes "padding:auto" ∷ codes "border-width:1px 5%" ∷ codes "border-style:solid thin" ∷ codes "border-color:none"
    ∷ codes "overflow:hidden clip" ∷ codes "overflow:auto auto auto" ∷ codes "all:red" ∷ codes "all:unset unset" ∷ codes "all:"
    ∷ codes "margin-top:1px 2px" ∷ codes "border:1px" ∷ codes "margin:var(x)" ∷ []
    ) ≡ replicate 21 0
unfolding style_declared declarations_in tokens_in value_in table units thousandths parts named_colors
dropped = refl
