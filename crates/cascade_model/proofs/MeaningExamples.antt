-- What declarations that refer to custom properties come to, and the CSS-wide keywords over a parent, computed.
use Rattle.std.proofs.Common.{◌≡◌, ℕ, pos, false, [], ◌∷◌, map, slice_get, Option, Some, refl}
use Rattle.std.specs.Prelude.{codes}
use Rattle.base_model.specs.Text.{Characters}
use Rattle.syntax_model.specs.Token.{said}
use Rattle.syntax_model.specs.TokensIn.{tokens_in}
use Rattle.syntax_model.specs.Numbers.{thousandths}
use Rattle.syntax_model.specs.Wide.{Wide, inherit, initial, unset, revert, revert_layer}
use Rattle.custom_model.specs.Value.{CustomValue}
use Rattle.custom_model.specs.Parts.{parts}
use Rattle.custom_model.specs.Expand.{Lookup, expansion}
use Rattle.value_model.specs.Color.{opaque, named_colors}
use Rattle.value_model.specs.Value.{Value, color, percent, em}
use Rattle.value_model.specs.Table.{table, color_property, display_property, overflow_x_property, width_property}
use Rattle.value_model.specs.Table.{margin_top_property, margin_right_property, font_size_property}
use Rattle.value_model.specs.Table.{line_height_property}
use Rattle.value_model.specs.Shorthand.{margin, overflow, all, longhands_of}
use Rattle.sheet_model.specs.ValueIn.{value_in, units}
use Rattle.sheet_model.specs.Shorthands.{PropertyName, single, shorthand}
use Rattle.sheet_model.specs.Declared.{wide, referring}
use Rattle.cascade_model.specs.Ending.{Ending, inherits, initially, unsets, ends_at, ending, ending_of}
use Rattle.cascade_model.specs.Cascade.{cascaded}
use Rattle.cascade_model.proofs.ExampleCases.{word, px, red, lime, styled, no_custom, declares_one}

abbrev tokens : Characters → CustomValue
tokens text = map said (tokens_in text)

-- where each custom property has this value
abbrev always : Characters → Lookup
always text name = Some (tokens text)

-- what a property comes to by a declaration of a property name with this value
abbrev refers : Lookup → PropertyName → Characters → ℕ → Ending Value
refers values property_name text property =
    ending values property (record (declares_one property red) { given = referring property_name (tokens text) } ∷ [])

abbrev of_margin : Characters → ℕ → Ending Value
of_margin value property = refers (always value) (shorthand margin) (codes "var(--x)") property

-- each property of a shorthand takes its part of what is expanded
margins : map (of_margin (codes "1px auto 5%")) (longhands_of margin) ≡ map ends_at (px 1 ∷ word (codes "auto") ∷ percent (pos 5_000) ∷ word (codes "auto") ∷ [])
unfolding ending_of expansion parts tokens_in value_in table units thousandths
margins = refl

parts_of_one : map (refers (always (codes "1px")) (shorthand margin) (codes "2em var(--x)")) (margin_top_property ∷ margin_right_property ∷ []) ≡ map ends_at (em (pos 2_000) ∷ px 1 ∷ [])
unfolding ending_of expansion parts tokens_in value_in table units thousandths
parts_of_one = refl

-- where one part is not taken, each property is as if `unset`
not_taken : map (λ value. of_margin value margin_top_property) (codes "1px red" ∷ codes "1px 2px 3px 4px 5px" ∷ codes "" ∷ codes "inherit 1px" ∷ []) ≡ unsets ∷ unsets ∷ unsets ∷ unsets ∷ []
unfolding ending_of expansion parts tokens_in value_in table units thousandths
not_taken = refl

-- a CSS-wide keyword acts as it, in a shorthand too
expanded_keywords : map (λ value. of_margin value margin_top_property) (codes "inherit" ∷ codes "Initial" ∷ codes "unset" ∷ []) ≡ inherits ∷ initially ∷ unsets ∷ []
unfolding ending_of expansion parts tokens_in value_in table units thousandths
expanded_keywords = refl

all_by_keyword : map (refers (always (codes "initial")) (shorthand all) (codes "var(--x)")) (color_property ∷ display_property ∷ line_height_property ∷ []) ≡ initially ∷ initially ∷ initially ∷ []
unfolding ending_of expansion parts tokens_in value_in table units thousandths
all_by_keyword = refl

no_value_for_all : refers (always (codes "red")) (shorthand all) (codes "var(--x)") color_property ≡ unsets
unfolding ending_of expansion parts tokens_in value_in table units thousandths
no_value_for_all = refl

without_a_value : refers no_custom (shorthand overflow) (codes "var(--x)") overflow_x_property ≡ unsets
unfolding ending_of expansion parts tokens_in value_in table units thousandths
without_a_value = refl

a_fallback : map (refers no_custom (shorthand overflow) (codes "var(--x, hidden scroll)")) (longhands_of overflow) ≡ map ends_at (word (codes "hidden") ∷ word (codes "scroll") ∷ [])
unfolding ending_of expansion parts tokens_in value_in table units thousandths
a_fallback = refl

one_property : map (λ value. refers (always value) (single color_property) (codes "var(--x)") color_property) (codes "rgb(1, 2, 3)" ∷ codes "1px" ∷ []) ≡ ends_at (color (opaque 1 2 3)) ∷ unsets ∷ []
unfolding ending_of expansion parts tokens_in value_in table units thousandths named_colors
one_property = refl

expanded_within : refers (always (codes "2")) (single color_property) (codes "rgb(1, var(--x), 3)") color_property ≡ ends_at (color (opaque 1 2 3))
unfolding ending_of expansion parts tokens_in value_in table units thousandths named_colors
expanded_within = refl

-- The CSS-wide keywords over a parent: of `color` and `font-size`, which are inherited, and of `width`, which is not.
abbrev under : Wide → Option Value × (Option Value × Option Value)
under keyword =
    let values = (cascaded false (styled ((color_property, lime) ∷ (font_size_property, px 20) ∷ (width_property, px 5) ∷ [])) (pos 10_000) (map (λ property. record (declares_one property red) { given = wide keyword }) (color_property ∷ font_size_property ∷ width_property ∷ []))).values in
    (slice_get values 0, (slice_get values font_size_property, slice_get values width_property))

abbrev parents : Option Value × (Option Value × Option Value)
parents = (Some lime, (Some (px 20), Some (px 5)))

abbrev initials : Option Value × (Option Value × Option Value)
initials = (Some (color (opaque 0 0 0)), (Some (px 16), Some (word (codes "auto"))))

abbrev as_unset : Option Value × (Option Value × Option Value)
as_unset = (Some lime, (Some (px 20), Some (word (codes "auto"))))

keywords : map under (inherit ∷ initial ∷ unset ∷ revert ∷ revert_layer ∷ []) ≡ parents ∷ initials ∷ as_unset ∷ as_unset ∷ as_unset ∷ []
unfolding ending_of table
keywords = refl
