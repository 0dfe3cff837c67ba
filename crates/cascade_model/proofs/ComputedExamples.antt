-- Computed values, over those of a parent: all but the named ones are initial.
use Rattle.std.proofs.Common.{◌≡◌, ℕ, ℤ, pos, Bool, List, [], ◌∷◌, map, slice_get, Option, Some, refl, false, true}
use Rattle.std.specs.Prelude.{codes}
use Rattle.base_model.specs.Text.{Characters}
use Rattle.value_model.specs.Color.{opaque}
use Rattle.value_model.specs.Value.{Value, color, pixels, percent, number, em, rem, current_color}
use Rattle.value_model.specs.Table.{table}
use Rattle.value_model.specs.Table.{color_property, display_property, position_property, float_property}
use Rattle.value_model.specs.Table.{width_property, height_property, margin_top_property, margin_right_property}
use Rattle.value_model.specs.Table.{margin_bottom_property, margin_left_property, border_top_width_property}
use Rattle.value_model.specs.Table.{border_right_width_property, border_bottom_width_property}
use Rattle.value_model.specs.Table.{border_left_width_property, border_top_style_property}
use Rattle.value_model.specs.Table.{border_right_style_property, border_bottom_style_property}
use Rattle.value_model.specs.Table.{border_left_style_property, border_top_color_property}
use Rattle.value_model.specs.Table.{border_right_color_property, border_bottom_color_property}
use Rattle.value_model.specs.Table.{background_color_property, font_size_property, font_weight_property}
use Rattle.value_model.specs.Table.{line_height_property}
use Rattle.sheet_model.proofs.ExampleCases.{minus}
use Rattle.cascade_model.specs.Ending.{ending_of}
use Rattle.cascade_model.specs.Cascade.{cascaded}
use Rattle.cascade_model.proofs.ExampleCases.{word, px, red, lime, styled, declare_all}

-- what some properties come to by declarations, over a parent's values, where the root's font size is 10 pixels
abbrev come : Bool → List (ℕ × Value) → List (ℕ × Value) → List ℕ → List (Option Value)
come is_root parents declared properties =
    let values = (cascaded is_root (styled parents) (pos 10_000) (declare_all declared)).values in
    map (slice_get values) properties

abbrev are : List Value → List (Option Value)
are values = map Some values

-- `em` in `font-size` is of the parent's font size, and elsewhere of the own
em_of_both : come false ((font_size_property, px 20) ∷ []) ((font_size_property, em (pos 1_500)) ∷ (width_property, em (pos 2_000)) ∷ []) (font_size_property ∷ width_property ∷ []) ≡ are (px 30 ∷ px 60 ∷ [])
unfolding ending_of table
em_of_both = refl

em_of_the_inherited : come false ((font_size_property, px 20) ∷ []) ((width_property, em (pos 2_000)) ∷ (margin_top_property, em (minus 500)) ∷ (border_top_color_property, em (pos 1)) ∷ []) (font_size_property ∷ width_property ∷ margin_top_property ∷ []) ≡ are (px 20 ∷ px 40 ∷ pixels (minus 10_000) ∷ [])
unfolding ending_of table
em_of_the_inherited = refl

rem_of_the_root : come false ((font_size_property, px 20) ∷ []) ((font_size_property, rem (pos 3_000)) ∷ (width_property, rem (pos 1_500)) ∷ (line_height_property, rem (pos 2_000)) ∷ []) (font_size_property ∷ width_property ∷ line_height_property ∷ []) ≡ are (px 30 ∷ px 15 ∷ px 20 ∷ [])
unfolding ending_of table
rem_of_the_root = refl

-- at the root `rem` is of what is handed in for `font-size`, and elsewhere of the own
rem_at_the_root : come true [] ((font_size_property, rem (pos 3_000)) ∷ (width_property, rem (pos 2_000)) ∷ (height_property, em (pos 2_000)) ∷ []) (font_size_property ∷ width_property ∷ height_property ∷ []) ≡ are (px 30 ∷ px 60 ∷ px 60 ∷ [])
unfolding ending_of table
rem_at_the_root = refl

-- rounded once, to the nearest thousandth, and within the range
rounded_sizes : come false ((font_size_property, pixels (pos 333)) ∷ []) ((width_property, em (pos 500)) ∷ (height_property, em (pos 1_500)) ∷ (margin_top_property, em (minus 500)) ∷ (margin_right_property, em (pos 2_000_000_000_000)) ∷ (margin_bottom_property, rem (pos 2_000_000_000_000)) ∷ (margin_left_property, rem (minus 2_000_000_000_000)) ∷ []) (width_property ∷ height_property ∷ margin_top_property ∷ margin_right_property ∷ margin_bottom_property ∷ margin_left_property ∷ []) ≡ are (pixels (pos 167) ∷ pixels (pos 500) ∷ pixels (minus 167) ∷ pixels (pos 666_000_000_000) ∷ pixels (pos 2_000_000_000_000) ∷ pixels (minus 2_000_000_000_000) ∷ [])
unfolding ending_of table
rounded_sizes = refl

-- A percentage of `font-size` is of the parent's, one of `line-height` of the own, and others stay.
percentages : come false ((font_size_property, px 20) ∷ []) ((font_size_property, percent (pos 150_000)) ∷ (line_height_property, percent (pos 150_000)) ∷ (width_property, percent (pos 150_000)) ∷ []) (font_size_property ∷ line_height_property ∷ width_property ∷ []) ≡ are (px 30 ∷ px 45 ∷ percent (pos 150_000) ∷ [])
unfolding ending_of table
percentages = refl

rounded_percentages : come false ((font_size_property, pixels (pos 333)) ∷ []) ((font_size_property, percent (pos 50_000)) ∷ (line_height_property, percent (pos 150_000)) ∷ []) (font_size_property ∷ line_height_property ∷ []) ≡ are (pixels (pos 167) ∷ pixels (pos 251) ∷ [])
unfolding ending_of table
rounded_percentages = refl

-- `line-height` is inherited as it was computed
heights : map (λ given. come false ((font_size_property, px 20) ∷ []) ((line_height_property, given) ∷ []) (line_height_property ∷ [])) (number (pos 1_500) ∷ em (pos 1_500) ∷ px 7 ∷ word (codes "normal") ∷ []) ≡ map (λ value. are (value ∷ [])) (number (pos 1_500) ∷ px 30 ∷ px 7 ∷ word (codes "normal") ∷ [])
unfolding ending_of table
heights = refl

inherited_heights : map (λ height. come false ((font_size_property, px 20) ∷ (line_height_property, height) ∷ []) ((font_size_property, px 40) ∷ []) (line_height_property ∷ [])) (number (pos 1_500) ∷ px 30 ∷ []) ≡ map (λ value. are (value ∷ [])) (number (pos 1_500) ∷ px 30 ∷ [])
unfolding ending_of table
inherited_heights = refl

-- the font size of an element whose parent has this one
abbrev size_over : ℤ → Value → List (Option Value)
size_over parent given = come false ((font_size_property, pixels parent) ∷ []) ((font_size_property, given) ∷ []) (font_size_property ∷ [])

abbrev sizes_over : ℤ → List Value → List (List (Option Value))
sizes_over parent given = map (size_over parent) given

abbrev each_are : List ℤ → List (List (Option Value))
each_are sizes = map (λ z. are (pixels z ∷ [])) sizes

relative_sizes : sizes_over (pos 20_000) (word (codes "larger") ∷ word (codes "smaller") ∷ px 13 ∷ []) ≡ each_are (pos 24_000 ∷ pos 16_667 ∷ pos 13_000 ∷ [])
unfolding ending_of table
relative_sizes = refl

of_the_initial_size : sizes_over (pos 16_000) (word (codes "larger") ∷ word (codes "smaller") ∷ em (pos 0) ∷ percent (pos 0) ∷ []) ≡ each_are (pos 19_200 ∷ pos 13_333 ∷ pos 0 ∷ pos 0 ∷ [])
unfolding ending_of table
of_the_initial_size = refl

of_no_size : sizes_over (pos 0) (word (codes "larger") ∷ word (codes "smaller") ∷ em (pos 9_000) ∷ percent (pos 300_000) ∷ []) ≡ each_are (pos 0 ∷ pos 0 ∷ pos 0 ∷ pos 0 ∷ [])
unfolding ending_of table
of_no_size = refl

-- the font weight of an element whose parent has this one
abbrev weight_over : Value → ℤ → List (Option Value)
weight_over given parent = come false ((font_weight_property, number parent) ∷ []) ((font_weight_property, given) ∷ []) (font_weight_property ∷ [])

-- every edge
abbrev edges : List ℤ
edges =
    pos 1_000 ∷ pos 99_999 ∷ pos 100_000 ∷ pos 349_999 ∷ pos 350_000 ∷ pos 549_999 ∷ pos 550_000 ∷ pos 749_999
    ∷ pos 750_000 ∷ pos 899_999 ∷ pos 900_000 ∷ pos 1_000_000 ∷ []

bolder : map (weight_over (word (codes "bolder"))) edges ≡ map (λ z. are (number z ∷ [])) (pos 400_000 ∷ pos 400_000 ∷ pos 400_000 ∷ pos 400_000 ∷ pos 700_000 ∷ pos 700_000 ∷ pos 900_000 ∷ pos 900_000 ∷ pos 900_000 ∷ pos 900_000 ∷ pos 900_000 ∷ pos 1_000_000 ∷ [])
unfolding ending_of table
bolder = refl

lighter : map (weight_over (word (codes "lighter"))) edges ≡ map (λ z. are (number z ∷ [])) (pos 1_000 ∷ pos 99_999 ∷ pos 100_000 ∷ pos 100_000 ∷ pos 100_000 ∷ pos 100_000 ∷ pos 400_000 ∷ pos 400_000 ∷ pos 700_000 ∷ pos 700_000 ∷ pos 700_000 ∷ pos 700_000 ∷ [])
unfolding ending_of table
lighter = refl

other_weights : map (λ given. weight_over given (pos 550_000)) (number (pos 350_500) ∷ number (pos 700_000) ∷ []) ≡ map (λ z. are (number z ∷ [])) (pos 350_500 ∷ pos 700_000 ∷ [])
unfolding ending_of table
other_weights = refl

-- `currentcolor` in `color` is the parent's colour, and elsewhere it stays
current_colors : come false ((color_property, lime) ∷ []) ((color_property, current_color) ∷ (border_top_color_property, current_color) ∷ (border_right_color_property, red) ∷ (background_color_property, current_color) ∷ []) (color_property ∷ border_top_color_property ∷ border_right_color_property ∷ border_bottom_color_property ∷ background_color_property ∷ []) ≡ are (lime ∷ current_color ∷ red ∷ current_color ∷ current_color ∷ [])
unfolding ending_of table
current_colors = refl

current_color_of_a_root : come true [] ((color_property, current_color) ∷ []) (color_property ∷ []) ≡ are (color (opaque 0 0 0) ∷ [])
unfolding ending_of table
current_color_of_a_root = refl

-- There is no border where its style is `none` or `hidden`, and one of 3 pixels where nothing is said of its width.
bare_borders : come false ((border_top_style_property, word (codes "solid")) ∷ (border_top_width_property, px 7) ∷ []) [] (border_top_width_property ∷ border_top_style_property ∷ []) ≡ are (px 0 ∷ word (codes "none") ∷ [])
unfolding ending_of table
bare_borders = refl

borders : come false [] ((border_top_style_property, word (codes "solid")) ∷ (border_right_style_property, word (codes "none")) ∷ (border_right_width_property, px 5) ∷ (border_bottom_style_property, word (codes "hidden")) ∷ (border_bottom_width_property, em (pos 1_000)) ∷ (border_left_style_property, word (codes "dotted")) ∷ (border_left_width_property, em (pos 500)) ∷ []) (border_top_width_property ∷ border_right_width_property ∷ border_bottom_width_property ∷ border_left_width_property ∷ []) ≡ are (px 3 ∷ px 0 ∷ px 0 ∷ px 8 ∷ [])
unfolding ending_of table
borders = refl

-- What is absolutely positioned does not float, and is made a block; so is what floats, and the root.
abbrev with_position : Bool → Characters → Characters → Characters → List (Option Value)
with_position is_root position float display =
    come is_root [] ((position_property, word position) ∷ (float_property, word float) ∷ (display_property, word display) ∷ []) (position_property ∷ float_property ∷ display_property ∷ [])

abbrev three : Characters → Characters → Characters → List (Option Value)
three position float display = are (word position ∷ word float ∷ word display ∷ [])

absolute : with_position false (codes "absolute") (codes "left") (codes "inline") ≡ three (codes "absolute") (codes "none") (codes "block")
unfolding ending_of table
absolute = refl

fixed : with_position false (codes "fixed") (codes "right") (codes "inline-flex") ≡ three (codes "fixed") (codes "none") (codes "flex")
unfolding ending_of table
fixed = refl

relative : with_position false (codes "relative") (codes "left") (codes "inline-block") ≡ three (codes "relative") (codes "left") (codes "block")
unfolding ending_of table
relative = refl

sticky : with_position false (codes "sticky") (codes "none") (codes "inline-block") ≡ three (codes "sticky") (codes "none") (codes "inline-block")
unfolding ending_of table
sticky = refl

not_shown : with_position true (codes "absolute") (codes "left") (codes "none") ≡ three (codes "absolute") (codes "none") (codes "none")
unfolding ending_of table
not_shown = refl

a_root : with_position true (codes "static") (codes "none") (codes "inline-flex") ≡ three (codes "static") (codes "none") (codes "flex")
unfolding ending_of table
a_root = refl
