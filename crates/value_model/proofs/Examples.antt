-- The definitions computed on small values.
use Rattle.std.specs.Option.{option_map_or}
use Rattle.std.proofs.Common.{lit<, ◌≡◌, true, false, Bool, None, not, List, [], ◌∷◌, ◌++◌, map, Some, is_none, refl}
use Rattle.std.specs.Prelude.{codes, decimal, ℕ, ◌+◌, ◌==◌, pos, neg_ℤ, slice_get, slice_set, length}
use Rattle.std.specs.List.{list_all, list_any}
use Rattle.std.proofs.lemmas.Fmt.{decimal_digit}
use Rattle.base_model.specs.Text.{Characters}
use Rattle.std.specs.FinMap as finmap
use Rattle.custom_model.proofs.Maps.{texts-empty}
use Rattle.value_model.specs.Color.{Color, opaque, rgba, transparent, black}
use Rattle.value_model.specs.Value.{Value, keyword, color, pixels, percent, number, em, rem, printed_value, same_value, current_color}
use Rattle.value_model.specs.Table.{PropertyRow, table, property_named, color_property, direction_property}
use Rattle.value_model.specs.Table.{display_property, position_property, float_property, clear_property}
use Rattle.value_model.specs.Table.{visibility_property, overflow_x_property, overflow_y_property, width_property}
use Rattle.value_model.specs.Table.{height_property, min_width_property, min_height_property, max_width_property}
use Rattle.value_model.specs.Table.{max_height_property, margin_top_property, margin_right_property}
use Rattle.value_model.specs.Table.{margin_bottom_property, margin_left_property, padding_top_property}
use Rattle.value_model.specs.Table.{padding_right_property, padding_bottom_property, padding_left_property}
use Rattle.value_model.specs.Table.{border_top_width_property, border_right_width_property}
use Rattle.value_model.specs.Table.{border_bottom_width_property, border_left_width_property}
use Rattle.value_model.specs.Table.{border_top_style_property, border_right_style_property}
use Rattle.value_model.specs.Table.{border_bottom_style_property, border_left_style_property}
use Rattle.value_model.specs.Table.{border_top_color_property, border_right_color_property}
use Rattle.value_model.specs.Table.{border_bottom_color_property, border_left_color_property}
use Rattle.value_model.specs.Table.{background_color_property, font_size_property, font_weight_property}
use Rattle.value_model.specs.Table.{font_style_property, line_height_property}
use Rattle.value_model.specs.Shorthand.{Short, short_named, longhands_of, margin, padding, border_width, border_style}
use Rattle.value_model.specs.Shorthand.{border_color, overflow, all}
use Rattle.value_model.specs.Style.{Style, initial_style, inherited_part, blockified, adjusted, font_size_of, font_weight_of}
use Rattle.value_model.specs.Printed.{printed_declarations}

abbrev word : Characters → Value
word text = keyword text

-- how a value is printed
abbrev values : List Value
values =
    color (opaque 0 0 0) ∷ color (opaque 255 255 255) ∷ color (opaque 255 0 7) ∷ color (opaque 18 52 86)
    ∷ color (rgba 120 154 188 222) ∷ color (rgba 240 15 9 254) ∷ color (rgba 171 205 239 127) ∷ color transparent
    ∷ keyword (codes "inline-block") ∷ current_color ∷ []

abbrev texts : List Characters
texts =
    codes "#000000" ∷ codes "#ffffff" ∷ codes "#ff0007" ∷ codes "#123456"
    ∷ codes "#789abcde" ∷ codes "#f00f09fe" ∷ codes "#abcdef7f" ∷ codes "#00000000"
    ∷ codes "inline-block" ∷ codes "currentcolor" ∷ []

-- numbers are in thousandths

digit_0 : decimal 0 ≡ 48 ∷ []
digit_0 = decimal_digit 0 (lit< tt)

digit_1 : decimal 1 ≡ 49 ∷ []
digit_1 = decimal_digit 1 (lit< tt)

digit_2 : decimal 2 ≡ 50 ∷ []
digit_2 = decimal_digit 2 (lit< tt)

digit_3 : decimal 3 ≡ 51 ∷ []
digit_3 = decimal_digit 3 (lit< tt)

digit_4 : decimal 4 ≡ 52 ∷ []
digit_4 = decimal_digit 4 (lit< tt)

digit_5 : decimal 5 ≡ 53 ∷ []
digit_5 = decimal_digit 5 (lit< tt)

digit_7 : decimal 7 ≡ 55 ∷ []
digit_7 = decimal_digit 7 (lit< tt)

digit_9 : decimal 9 ≡ 57 ∷ []
digit_9 = decimal_digit 9 (lit< tt)

abbrev amounts : List Value
amounts =
    pixels (pos 0) ∷ pixels (pos 1) ∷ pixels (pos 1_000) ∷ pixels (pos 7_795) ∷ pixels (neg_ℤ (pos 2))
    ∷ pixels (neg_ℤ (pos 1_500)) ∷ percent (pos 2_340) ∷ percent (neg_ℤ (pos 9_000)) ∷ number (pos 4_000)
    ∷ number (pos 1_010) ∷ em (pos 1_500) ∷ rem (neg_ℤ (pos 250)) ∷ []

abbrev amount_texts : List Characters
amount_texts =
    codes "0px" ∷ codes "0.001px" ∷ codes "1px" ∷ codes "7.795px" ∷ codes "-0.002px"
    ∷ codes "-1.5px" ∷ codes "2.34%" ∷ codes "-9%" ∷ codes "4"
    ∷ codes "1.01" ∷ codes "1.5em" ∷ codes "-0.25rem" ∷ []

amounts_written : map printed_value amounts ≡ amount_texts
amounts_written = simp (digit_0, digit_1, digit_2, digit_3, digit_4, digit_5, digit_7, digit_9)

values_written : map printed_value values ≡ texts
values_written = refl

-- each number of a property is that of the row with its name
abbrev all_names : List Characters
all_names =
    codes "color" ∷ codes "direction" ∷ codes "display" ∷ codes "position" ∷ codes "float" ∷ codes "clear"
    ∷ codes "visibility" ∷ codes "overflow-x" ∷ codes "overflow-y" ∷ codes "width" ∷ codes "height"
    ∷ codes "min-width" ∷ codes "min-height" ∷ codes "max-width" ∷ codes "max-height" ∷ codes "margin-top"
    ∷ codes "margin-right" ∷ codes "margin-bottom" ∷ codes "margin-left" ∷ codes "padding-top"
    ∷ codes "padding-right" ∷ codes "padding-bottom" ∷ codes "padding-left" ∷ codes "border-top-width"
    ∷ codes "border-right-width" ∷ codes "border-bottom-width" ∷ codes "border-left-width"
    ∷ codes "border-top-style" ∷ codes "border-right-style" ∷ codes "border-bottom-style"
    ∷ codes "border-left-style" ∷ codes "border-top-color" ∷ codes "border-right-color"
    ∷ codes "border-bottom-color" ∷ codes "border-left-color" ∷ codes "background-color" ∷ codes "font-size"
    ∷ codes "font-weight" ∷ codes "font-style" ∷ codes "line-height" ∷ []

abbrev all_properties : List ℕ
all_properties =
    color_property ∷ direction_property ∷ display_property ∷ position_property ∷ float_property
    ∷ clear_property ∷ visibility_property ∷ overflow_x_property ∷ overflow_y_property ∷ width_property
    ∷ height_property ∷ min_width_property ∷ min_height_property ∷ max_width_property ∷ max_height_property
    ∷ margin_top_property ∷ margin_right_property ∷ margin_bottom_property ∷ margin_left_property
    ∷ padding_top_property ∷ padding_right_property ∷ padding_bottom_property ∷ padding_left_property
    ∷ border_top_width_property ∷ border_right_width_property ∷ border_bottom_width_property
    ∷ border_left_width_property ∷ border_top_style_property ∷ border_right_style_property
    ∷ border_bottom_style_property ∷ border_left_style_property ∷ border_top_color_property
    ∷ border_right_color_property ∷ border_bottom_color_property ∷ border_left_color_property
    ∷ background_color_property ∷ font_size_property ∷ font_weight_property ∷ font_style_property
    ∷ line_height_property ∷ []

names : map property_named all_names ≡ map Some all_properties
unfolding table
names = refl

names_in_any_case : map property_named (codes "Display" ∷ codes "CLEAR" ∷ codes "viSIbilitY" ∷ codes "Font-SIZE" ∷ []) ≡ map Some (display_property ∷ clear_property ∷ visibility_property ∷ font_size_property ∷ [])
unfolding table
names_in_any_case = refl

shorts : map short_named (codes "margin" ∷ codes "Padding" ∷ codes "border-WIDTH" ∷ codes "border-style" ∷ codes "border-color" ∷ codes "overflow" ∷ codes "ALL" ∷ []) ≡ map Some (margin ∷ padding ∷ border_width ∷ border_style ∷ border_color ∷ overflow ∷ all ∷ [])
shorts = refl

no_shorts : map short_named (codes "border" ∷ codes "margin-top" ∷ codes "font" ∷ codes "--all" ∷ []) ≡ None ∷ None ∷ None ∷ None ∷ []
no_shorts = refl

-- what a shorthand sets
abbrev row_names : Short → List Characters
row_names short = map (λ property. option_map_or (λ (row : PropertyRow). row.name) (slice_get table property) []) (longhands_of short)

-- the names for the four sides, between these texts
abbrev of_sides : Characters → Characters → List Characters
of_sides first last =
    map (λ side. first ++ (side ++ last)) (codes "top" ∷ codes "right" ∷ codes "bottom" ∷ codes "left" ∷ [])

sides : map row_names (margin ∷ padding ∷ border_width ∷ border_style ∷ border_color ∷ overflow ∷ []) ≡ of_sides (codes "margin-") [] ∷ of_sides (codes "padding-") [] ∷ of_sides (codes "border-") (codes "-width") ∷ of_sides (codes "border-") (codes "-style") ∷ of_sides (codes "border-") (codes "-color") ∷ (codes "overflow-x" ∷ codes "overflow-y" ∷ []) ∷ []
unfolding table
sides = refl

all_but_direction : map (λ property. list_any (λ other. other == property) (longhands_of all)) all_properties ≡ map (λ property. not (property == direction_property)) all_properties
unfolding table
all_but_direction = refl

how_many_are_all : length (longhands_of all) + 1 ≡ length table
unfolding table
how_many_are_all = refl

abbrev other_names : List Characters
other_names =
    [] ∷ codes "colour" ∷ codes "margin" ∷ codes "all" ∷ codes "clea" ∷ codes "clear " ∷ codes "--color" ∷ (codes "vi" ++ 383 ∷ codes "ibility") ∷ []

no_names : list_all (λ name. is_none (property_named name)) other_names ≡ true
unfolding table
no_names = refl

-- which values are the same
abbrev others : List (Value × Value)
others =
    (word (codes "block"), word (codes "inline-block")) ∷ (word (codes "block"), color black)
    ∷ (color black, word (codes "block")) ∷ (color black, color transparent)
    ∷ (pixels (pos 1), pixels (pos 2)) ∷ (pixels (pos 1), number (pos 1)) ∷ (em (pos 1), rem (pos 1)) ∷ []

same : list_all (λ value. same_value value value) (values ++ amounts) ≡ true
same = refl

not_same : list_all (λ pair. not (same_value pair.0 pair.1)) others ≡ true
not_same = refl

-- the initial values, but for these
abbrev values_with : List (ℕ × Value) → List Value
values_with [] = initial_style.values
values_with (one ∷ rest) = slice_set (values_with rest) one.0 one.1

abbrev style : List (ℕ × Value) → Style
style changes = record { values = values_with changes; custom = finmap.empty }

abbrev red : Color
red = opaque 255 0 0

inherited : inherited_part (style ((color_property, color red) ∷ (display_property, word (codes "flex")) ∷ (clear_property, word (codes "left")) ∷ (visibility_property, word (codes "collapse")) ∷ (font_size_property, pixels (pos 9)) ∷ (border_top_width_property, pixels (pos 9)) ∷ [])) ≡ style ((color_property, color red) ∷ (visibility_property, word (codes "collapse")) ∷ (font_size_property, pixels (pos 9)) ∷ [])
unfolding table
inherited = refl

-- what becomes of each `display` where an element is made a block
abbrev displays : List Value
displays =
    map word (codes "inline" ∷ codes "block" ∷ codes "inline-block" ∷ codes "flex" ∷ codes "inline-flex" ∷ codes "none" ∷ [])

abbrev blocks : List Value
blocks =
    map word (codes "block" ∷ codes "block" ∷ codes "block" ∷ codes "flex" ∷ codes "flex" ∷ codes "none" ∷ [])

blockified_values : map blockified (color red ∷ displays) ≡ color red ∷ blocks
blockified_values = refl

-- The adjustments: the border widths are 3 pixels before, and without a border style 0 after.
abbrev no_borders : List (ℕ × Value)
no_borders = (border_top_width_property, pixels (pos 0)) ∷ (border_right_width_property, pixels (pos 0)) ∷ (border_bottom_width_property, pixels (pos 0)) ∷ (border_left_width_property, pixels (pos 0)) ∷ []

abbrev adjusts : Bool → List (ℕ × Value) → List (ℕ × Value) → Type 0
adjusts is_root before after = adjusted is_root (values_with before) ≡ values_with (after ++ no_borders)

nothing_changes : adjusts false ((display_property, word (codes "inline-flex")) ∷ []) ((display_property, word (codes "inline-flex")) ∷ [])
unfolding table
nothing_changes = refl

the_root : adjusts true ((display_property, word (codes "inline-flex")) ∷ []) ((display_property, word (codes "flex")) ∷ [])
unfolding table
the_root = refl

a_float : adjusts false ((float_property, word (codes "left")) ∷ []) ((float_property, word (codes "left")) ∷ (display_property, word (codes "block")) ∷ [])
unfolding table
a_float = refl

-- `float` goes first, so that `display` is by the position alone
positioned : adjusts false ((position_property, word (codes "fixed")) ∷ (float_property, word (codes "left")) ∷ (display_property, word (codes "inline-block")) ∷ []) ((position_property, word (codes "fixed")) ∷ (display_property, word (codes "block")) ∷ [])
unfolding table
positioned = refl

relative_floats : adjusts false ((position_property, word (codes "relative")) ∷ (float_property, word (codes "right")) ∷ (display_property, word (codes "none")) ∷ []) ((position_property, word (codes "relative")) ∷ (float_property, word (codes "right")) ∷ (display_property, word (codes "none")) ∷ [])
unfolding table
relative_floats = refl

borders : adjusts false ((border_top_style_property, word (codes "solid")) ∷ (border_right_style_property, word (codes "hidden")) ∷ (border_right_width_property, pixels (pos 9)) ∷ (border_left_style_property, word (codes "dotted")) ∷ (border_left_width_property, pixels (pos 7)) ∷ []) ((border_top_style_property, word (codes "solid")) ∷ (border_top_width_property, pixels (pos 3_000)) ∷ (border_right_style_property, word (codes "hidden")) ∷ (border_left_style_property, word (codes "dotted")) ∷ (border_left_width_property, pixels (pos 7)) ∷ [])
unfolding table
borders = refl

first_size : font_size_of initial_style.values ≡ pos 16_000
unfolding table
first_size = refl

first_weight : font_weight_of initial_style.values ≡ pos 400_000
unfolding table
first_weight = refl

-- what is printed of a style
abbrev styles : List Style
styles =
    style no_borders
    ∷ style ((display_property, word (codes "block")) ∷ no_borders)
    ∷ style ((color_property, color (rgba 255 128 0 128)) ∷ (visibility_property, word (codes "hidden")) ∷ no_borders)
    ∷ style ((color_property, color (opaque 16 128 0)) ∷ (display_property, word (codes "inline-flex")) ∷ (clear_property, word (codes "both")) ∷ (line_height_property, number (pos 1_500)) ∷ no_borders)
    ∷ style ((border_top_width_property, pixels (pos 3_000)) ∷ (border_right_width_property, pixels (pos 0)) ∷ (border_bottom_width_property, pixels (pos 1_500)) ∷ (border_left_width_property, pixels (pos 0)) ∷ (width_property, percent (pos 5_000)) ∷ [])
    ∷ []

abbrev printed : List Characters
printed =
    []
    ∷ codes "display: block"
    ∷ codes "color: #ff800080; visibility: hidden"
    ∷ codes "color: #108000; display: inline-flex; clear: both; line-height: 1.5"
    ∷ codes "width: 5%; border-top-width: 3px; border-bottom-width: 1.5px"
    ∷ []

styles_printed : map printed_declarations styles ≡ printed
unfolding table
styles_printed = simp (texts-empty, digit_0, digit_1, digit_2, digit_3, digit_4, digit_5, digit_7, digit_9)
