-- The properties of `all`, and their places.
use Rattle.std.proofs.Common.{◌≡◌, ℕ, List, map, refl, ap, ◌∙◌}
use Rattle.value_model.specs.Shorthand.{all_longhands, longhands_of}
use Rattle.value_model.specs.Shorthand.{margin, padding, border_width, border_style, border_color, overflow}
use Rattle.value_model.specs.Table.{table, direction_property, margin_top_property, padding_top_property}
use Rattle.value_model.specs.Table.{border_top_width_property, border_top_style_property, border_top_color_property}
use Rattle.value_model.specs.Table.{overflow_x_property}
use Rattle.property_table.specs.View.{property_of}
use Rattle.property_table.specs.declared.property.PropId.{PropId}
use Rattle.property_table.specs.declared.property.PropId.TheVariants.{Color}
use Rattle.shorthands.specs.View.{place_in, rows_before, rows_but}
use Rattle.shorthands.specs.declared.short.TheConstants.{ALL}

-- the rows but that of `direction`
abbrev pub rows : List ℕ
rows = map property_of ALL.now

pub all_are : rows ≡ all_longhands
unfolding table
all_are = refl

place_among : (id : PropId) → rows_but direction_property (property_of id) ≡ place_in rows (property_of id)
place_among Color = refl
place_among _ = refl

pub place_in_all : (id : PropId) → rows_but direction_property (property_of id) ≡ place_in all_longhands (property_of id)
place_in_all id = place_among id ∙ ap (λ list. place_in list (property_of id)) all_are

pub place_in_margin : (id : PropId) → rows_before margin_top_property 4 (property_of id) ≡ place_in (longhands_of margin) (property_of id)
place_in_margin Color = refl
place_in_margin _ = refl

pub place_in_padding : (id : PropId) → rows_before padding_top_property 4 (property_of id) ≡ place_in (longhands_of padding) (property_of id)
place_in_padding Color = refl
place_in_padding _ = refl

pub place_in_border_width : (id : PropId) → rows_before border_top_width_property 4 (property_of id) ≡ place_in (longhands_of border_width) (property_of id)
place_in_border_width Color = refl
place_in_border_width _ = refl

pub place_in_border_style : (id : PropId) → rows_before border_top_style_property 4 (property_of id) ≡ place_in (longhands_of border_style) (property_of id)
place_in_border_style Color = refl
place_in_border_style _ = refl

pub place_in_border_color : (id : PropId) → rows_before border_top_color_property 4 (property_of id) ≡ place_in (longhands_of border_color) (property_of id)
place_in_border_color Color = refl
place_in_border_color _ = refl

pub place_in_overflow : (id : PropId) → rows_before overflow_x_property 2 (property_of id) ≡ place_in (longhands_of overflow) (property_of id)
place_in_overflow Color = refl
place_in_overflow _ = refl
