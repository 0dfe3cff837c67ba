-- The styles of a table, and the numbers of each one's part and custom properties.
use Rattle.std.specs.Prelude.{◌≡◌, ℕ, List, map, Option, Some, option_map, slice_get}
use Rattle.std.specs.Arc.{arc_value}
use Rattle.custom_model.specs.Value.{CustomValues}
use Rattle.value_model.specs.Style.{Style, inherited_part}
use Rattle.style_value.specs.declared.table.TableStyle.{TableStyle}

abbrev pub styles_of : List TableStyle → List Style
styles_of list = map (λ one. arc_value one.style) list

-- the inherited part of the style with a number, if there is one
abbrev pub part_at : List Style → ℕ → Option Style
part_at styles number = option_map inherited_part (slice_get styles number)

-- the custom properties of the style with a number, if there is one
abbrev pub custom_at : List Style → ℕ → Option CustomValues
custom_at styles number = option_map (λ (style : Style). style.custom) (slice_get styles number)

-- each one's number is that of a style which has the same
abbrev pub HaveNumbers : {X : Type 0} → (Style → X) → (TableStyle → ℕ) → List TableStyle → Type 0
HaveNumbers seen number_of list =
    (number : ℕ) (one : TableStyle) → slice_get list number ≡ Some one
    → option_map seen (slice_get (styles_of list) (number_of one)) ≡ Some (seen (arc_value one.style))

-- the part of each is the number of a style with an equal inherited part
abbrev pub HaveParts : List TableStyle → Type 0
HaveParts = HaveNumbers inherited_part (λ one. one.part)

-- and the number of its custom properties is that of a style with equal ones
abbrev pub HaveCustom : List TableStyle → Type 0
HaveCustom = HaveNumbers (λ (style : Style). style.custom) (λ one. one.custom)
