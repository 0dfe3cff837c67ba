-- Shorthands, and the properties that each stands for (css-cascade-5, section 3).
use Rattle.std.specs.Prelude.{ℕ, ◌==◌, List, [], ◌∷◌, filter, find, length, Option, option_map, not, codes}
use Rattle.std.specs.List.{range_with_len}
use Rattle.base_model.specs.Text.{Characters, is_word}
use Rattle.value_model.specs.Table.{table, direction_property, overflow_x_property, overflow_y_property}
use Rattle.value_model.specs.Table.{margin_top_property, margin_right_property, margin_bottom_property, margin_left_property}
use Rattle.value_model.specs.Table.{padding_top_property, padding_right_property, padding_bottom_property, padding_left_property}
use Rattle.value_model.specs.Table.{border_top_width_property, border_right_width_property}
use Rattle.value_model.specs.Table.{border_bottom_width_property, border_left_width_property}
use Rattle.value_model.specs.Table.{border_top_style_property, border_right_style_property}
use Rattle.value_model.specs.Table.{border_bottom_style_property, border_left_style_property}
use Rattle.value_model.specs.Table.{border_top_color_property, border_right_color_property}
use Rattle.value_model.specs.Table.{border_bottom_color_property, border_left_color_property}

pub data Short : Type 0 where
  margin : Short
  padding : Short
  border_width : Short
  border_style : Short
  border_color : Short
  overflow : Short
  -- all properties but `direction` (css-cascade-5, section 3.2)
  all : Short

abbrev pub all_longhands : List ℕ
all_longhands = filter (λ property. not (property == direction_property)) (range_with_len 0 (length table))

-- the properties, by their rows, in the order of the table
abbrev pub longhands_of : Short → List ℕ
longhands_of margin =
    margin_top_property ∷ margin_right_property ∷ margin_bottom_property ∷ margin_left_property ∷ []
longhands_of padding =
    padding_top_property ∷ padding_right_property ∷ padding_bottom_property ∷ padding_left_property ∷ []
longhands_of border_width =
    border_top_width_property ∷ border_right_width_property
    ∷ border_bottom_width_property ∷ border_left_width_property ∷ []
longhands_of border_style =
    border_top_style_property ∷ border_right_style_property
    ∷ border_bottom_style_property ∷ border_left_style_property ∷ []
longhands_of border_color =
    border_top_color_property ∷ border_right_color_property
    ∷ border_bottom_color_property ∷ border_left_color_property ∷ []
longhands_of overflow = overflow_x_property ∷ overflow_y_property ∷ []
longhands_of all = all_longhands

abbrev pub short_names : List (Characters × Short)
short_names =
    (codes "margin", margin) ∷ (codes "padding", padding)
    ∷ (codes "border-width", border_width) ∷ (codes "border-style", border_style)
    ∷ (codes "border-color", border_color) ∷ (codes "overflow", overflow) ∷ (codes "all", all) ∷ []

-- names ignore ASCII case
abbrev pub short_named : Characters → Option Short
short_named name = option_map (λ row. row.1) (find (λ row. is_word row.0 name) short_names)
