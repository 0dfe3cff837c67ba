-- The style over that of a parent, computed.
use Rattle.std.proofs.Common.{◌≡◌, Bool, List, [], ◌∷◌, map, slice_get, Option, Some, refl, false, true}
use Rattle.std.specs.Prelude.{codes}
use Rattle.custom_model.proofs.Maps.{resolved-empty}
use Rattle.value_model.specs.Value.{Value, current_color}
use Rattle.value_model.specs.Table.{table, display_property}
use Rattle.value_model.specs.Table.{color_property, clear_property, visibility_property, width_property}
use Rattle.value_model.specs.Style.{Style, initial_style, initial_size, blockified}
use Rattle.cascade_model.specs.Ending.{ending_of}
use Rattle.cascade_model.specs.Custom.{declared_values}
use Rattle.cascade_model.specs.Cascade.{cascaded}
use Rattle.cascade_model.proofs.ExampleCases.{word, px, lime, styled, no_borders, plainly, declares_one}

abbrev parent : Style
parent = styled ((color_property, lime) ∷ (display_property, word (codes "flex")) ∷ (clear_property, word (codes "both")) ∷ (visibility_property, word (codes "hidden")) ∷ (width_property, px 5) ∷ [])

without_a_declaration : cascaded false parent initial_size [] ≡ styled ((color_property, lime) ∷ (visibility_property, word (codes "hidden")) ∷ no_borders)
unfolding ending_of table declared_values
without_a_declaration = simp resolved-empty

each_property_alone : cascaded false parent initial_size (declares_one visibility_property (word (codes "collapse")) ∷ declares_one display_property (word (codes "inline-block")) ∷ declares_one clear_property (word (codes "left")) ∷ []) ≡ styled ((color_property, lime) ∷ (display_property, word (codes "inline-block")) ∷ (clear_property, word (codes "left")) ∷ (visibility_property, word (codes "collapse")) ∷ no_borders)
unfolding ending_of table declared_values
each_property_alone = simp resolved-empty

current_color_inherits : cascaded false parent initial_size (plainly current_color ∷ []) ≡ cascaded false parent initial_size []
unfolding ending_of table declared_values
current_color_inherits = simp resolved-empty

current_color_of_the_root : cascaded true initial_style initial_size (plainly current_color ∷ []) ≡ cascaded true initial_style initial_size []
unfolding ending_of table declared_values
current_color_of_the_root = simp resolved-empty

bare_root : cascaded true initial_style initial_size [] ≡ styled ((display_property, word (codes "block")) ∷ no_borders)
unfolding ending_of table declared_values
bare_root = simp resolved-empty

-- each `display` at the root, and below it
abbrev displays : List Value
displays =
    map word (codes "inline" ∷ codes "block" ∷ codes "inline-block" ∷ codes "flex" ∷ codes "inline-flex" ∷ codes "none" ∷ [])

abbrev display_at : Bool → Value → Option Value
display_at is_root value =
    slice_get (cascaded is_root initial_style initial_size (declares_one display_property value ∷ [])).values display_property

root_displays : map (display_at true) displays ≡ map (λ value. Some (blockified value)) displays
unfolding ending_of table declared_values
root_displays = refl

other_displays : map (display_at false) displays ≡ map Some displays
unfolding ending_of table declared_values
other_displays = refl
