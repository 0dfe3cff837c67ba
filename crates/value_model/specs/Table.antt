-- The table of properties, in the order in which they are printed (css-cascade-5, section 7, for what a row says).
use Rattle.std.specs.Prelude.{ℕ, ◌+◌, ℤ, pos, List, [], ◌∷◌, ◌++◌, map, position, Bool, true, false, Option, codes}
use Rattle.base_model.specs.Text.{Characters, is_word}
use Rattle.base_model.specs.Thousandths.{most}
use Rattle.value_model.specs.Color.{black, transparent}
use Rattle.value_model.specs.Value.{Value, keyword, color, pixels, number, current_color}

-- what a property takes as a value, beside the keywords that all take
pub data ValueForm : Type 0 where
  -- this word, which is read as this value
  named : Characters → Value → ValueForm
  any_color : ValueForm
  -- whether it may be negative, and whether a number that is 0 is one
  length : Bool → Bool → ValueForm
  -- whether it may be negative
  percentage : Bool → ValueForm
  -- a number of at least and at most so many thousandths
  number_within : ℤ → ℤ → ValueForm

-- how a value of a property is computed
pub data ComputeRule : Type 0 where
  -- lengths become pixels
  plain : ComputeRule
  of_color : ComputeRule
  of_font_size : ComputeRule
  of_font_weight : ComputeRule
  of_line_height : ComputeRule

pub record PropertyRow : Type 0 where
  pub name : Characters
  pub inherited : Bool
  -- what the property is where nothing sets it
  pub initial : Value
  -- what is not printed
  pub standing : Value
  -- what it takes
  pub forms : List ValueForm
  pub rule : ComputeRule

-- a keyword, which is read as itself
abbrev pub word : Characters → ValueForm
word text = named text (keyword text)

-- the name, the initial value and the keywords of a property that takes keywords alone
abbrev pub of_words : Characters → Bool → Characters → List Characters → PropertyRow
of_words name inherited initial others = record {
  name = name;
  inherited = inherited;
  initial = keyword initial;
  standing = keyword initial;
  forms = word initial ∷ map word others;
  rule = plain;
}

-- css-color-4, section 3; CSS 2.2, section 8.5.2; CSS 2.2, section 14.2.1
abbrev pub color_row : PropertyRow
color_row = record {
  name = codes "color";
  inherited = true;
  initial = color black;
  standing = color black;
  forms = any_color ∷ [];
  rule = of_color;
}

abbrev pub color_of_part : Characters → Value → PropertyRow
color_of_part name initial = record {
  name = name;
  inherited = false;
  initial = initial;
  standing = initial;
  forms = any_color ∷ [];
  rule = plain;
}

-- a property that takes lengths, percentages and perhaps a word, and none of them negative unless said
abbrev pub of_size : Characters → Value → Bool → List ValueForm → PropertyRow
of_size name initial negative words = record {
  name = name;
  inherited = false;
  initial = initial;
  standing = initial;
  forms = words ++ (length negative true ∷ percentage negative ∷ []);
  rule = plain;
}

-- css-sizing-3, section 3.1
abbrev pub box_size : Characters → PropertyRow
box_size name = of_size name (keyword (codes "auto")) false (word (codes "auto") ∷ [])

abbrev pub box_limit : Characters → PropertyRow
box_limit name = of_size name (keyword (codes "none")) false (word (codes "none") ∷ [])

-- CSS 2.2, section 8.3 and 8.4
abbrev pub margin_row : Characters → PropertyRow
margin_row name = of_size name (pixels (pos 0)) true (word (codes "auto") ∷ [])

abbrev pub padding_row : Characters → PropertyRow
padding_row name = of_size name (pixels (pos 0)) false []

-- CSS 2.2, section 8.5.1; css-backgrounds-3, section 3.3
abbrev pub border_width_row : Characters → PropertyRow
border_width_row name = record {
  name = name;
  inherited = false;
  initial = pixels (pos 3_000);
  standing = pixels (pos 0);
  forms =
      named (codes "thin") (pixels (pos 1_000)) ∷ named (codes "medium") (pixels (pos 3_000))
      ∷ named (codes "thick") (pixels (pos 5_000)) ∷ length false true ∷ [];
  rule = plain;
}

-- css-backgrounds-3, section 3.2
abbrev pub border_style_row : Characters → PropertyRow
border_style_row name =
    of_words name false (codes "none")
    (codes "hidden" ∷ codes "dotted" ∷ codes "dashed" ∷ codes "solid" ∷ codes "double" ∷ codes "groove"
    ∷ codes "ridge" ∷ codes "inset" ∷ codes "outset" ∷ [])

-- css-overflow-3, section 3
abbrev pub overflow_row : Characters → PropertyRow
overflow_row name =
    of_words name false (codes "visible") (codes "hidden" ∷ codes "scroll" ∷ codes "auto" ∷ [])

-- the forms of `font-size` (css-fonts-4, section 2.5)
abbrev pub font_size_row : PropertyRow
font_size_row = record {
  name = codes "font-size";
  inherited = true;
  initial = pixels (pos 16_000);
  standing = pixels (pos 16_000);
  forms =
      named (codes "xx-small") (pixels (pos 9_000)) ∷ named (codes "x-small") (pixels (pos 10_000))
      ∷ named (codes "small") (pixels (pos 13_000)) ∷ named (codes "medium") (pixels (pos 16_000))
      ∷ named (codes "large") (pixels (pos 18_000)) ∷ named (codes "x-large") (pixels (pos 24_000))
      ∷ named (codes "xx-large") (pixels (pos 32_000)) ∷ word (codes "larger") ∷ word (codes "smaller")
      ∷ length false true ∷ percentage false ∷ [];
  rule = of_font_size;
}

-- css-fonts-4, section 2.2
abbrev pub font_weight_row : PropertyRow
font_weight_row = record {
  name = codes "font-weight";
  inherited = true;
  initial = number (pos 400_000);
  standing = number (pos 400_000);
  forms =
      named (codes "normal") (number (pos 400_000)) ∷ named (codes "bold") (number (pos 700_000))
      ∷ word (codes "bolder") ∷ word (codes "lighter") ∷ number_within (pos 1_000) (pos 1_000_000) ∷ [];
  rule = of_font_weight;
}

-- CSS 2.2, section 10.8.1
abbrev pub line_height_row : PropertyRow
line_height_row = record {
  name = codes "line-height";
  inherited = true;
  initial = keyword (codes "normal");
  standing = keyword (codes "normal");
  forms =
      word (codes "normal") ∷ number_within (pos 0) (pos most) ∷ length false false ∷ percentage false ∷ [];
  rule = of_line_height;
}

-- css-writing-modes-4, section 2.1; css-display-3, sections 2 and 4; css-position-3, section 2; CSS 2.2, section 9.5
abbrev pub first_rows : List PropertyRow
first_rows =
    color_row
    ∷ of_words (codes "direction") true (codes "ltr") (codes "rtl" ∷ [])
    ∷ of_words (codes "display") false (codes "inline")
    (codes "block" ∷ codes "inline-block" ∷ codes "flex" ∷ codes "inline-flex" ∷ codes "none" ∷ [])
    ∷ of_words (codes "position") false (codes "static")
    (codes "relative" ∷ codes "absolute" ∷ codes "fixed" ∷ codes "sticky" ∷ [])
    ∷ of_words (codes "float") false (codes "none") (codes "left" ∷ codes "right" ∷ [])
    ∷ of_words (codes "clear") false (codes "none") (codes "left" ∷ codes "right" ∷ codes "both" ∷ [])
    ∷ of_words (codes "visibility") true (codes "visible") (codes "hidden" ∷ codes "collapse" ∷ [])
    ∷ overflow_row (codes "overflow-x")
    ∷ overflow_row (codes "overflow-y")
    ∷ []

abbrev pub box_rows : List PropertyRow
box_rows =
    box_size (codes "width") ∷ box_size (codes "height")
    ∷ box_size (codes "min-width") ∷ box_size (codes "min-height")
    ∷ box_limit (codes "max-width") ∷ box_limit (codes "max-height")
    ∷ margin_row (codes "margin-top") ∷ margin_row (codes "margin-right")
    ∷ margin_row (codes "margin-bottom") ∷ margin_row (codes "margin-left")
    ∷ padding_row (codes "padding-top") ∷ padding_row (codes "padding-right")
    ∷ padding_row (codes "padding-bottom") ∷ padding_row (codes "padding-left")
    ∷ []

abbrev pub border_rows : List PropertyRow
border_rows =
    border_width_row (codes "border-top-width") ∷ border_width_row (codes "border-right-width")
    ∷ border_width_row (codes "border-bottom-width") ∷ border_width_row (codes "border-left-width")
    ∷ border_style_row (codes "border-top-style") ∷ border_style_row (codes "border-right-style")
    ∷ border_style_row (codes "border-bottom-style") ∷ border_style_row (codes "border-left-style")
    ∷ color_of_part (codes "border-top-color") current_color
    ∷ color_of_part (codes "border-right-color") current_color
    ∷ color_of_part (codes "border-bottom-color") current_color
    ∷ color_of_part (codes "border-left-color") current_color
    ∷ color_of_part (codes "background-color") (color transparent)
    ∷ []

abbrev pub font_rows : List PropertyRow
font_rows =
    font_size_row ∷ font_weight_row
    ∷ of_words (codes "font-style") true (codes "normal") (codes "italic" ∷ codes "oblique" ∷ [])
    ∷ line_height_row
    ∷ []

unfoldable pub table : List PropertyRow
table = first_rows ++ (box_rows ++ (border_rows ++ font_rows))

-- A property is its row, from 0: each is the one after that of the row before it.

abbrev pub color_property : ℕ
color_property = 0

abbrev pub direction_property : ℕ
direction_property = color_property + 1

abbrev pub display_property : ℕ
display_property = direction_property + 1

abbrev pub position_property : ℕ
position_property = display_property + 1

abbrev pub float_property : ℕ
float_property = position_property + 1

abbrev pub clear_property : ℕ
clear_property = float_property + 1

abbrev pub visibility_property : ℕ
visibility_property = clear_property + 1

abbrev pub overflow_x_property : ℕ
overflow_x_property = visibility_property + 1

abbrev pub overflow_y_property : ℕ
overflow_y_property = overflow_x_property + 1

abbrev pub width_property : ℕ
width_property = overflow_y_property + 1

abbrev pub height_property : ℕ
height_property = width_property + 1

abbrev pub min_width_property : ℕ
min_width_property = height_property + 1

abbrev pub min_height_property : ℕ
min_height_property = min_width_property + 1

abbrev pub max_width_property : ℕ
max_width_property = min_height_property + 1

abbrev pub max_height_property : ℕ
max_height_property = max_width_property + 1

abbrev pub margin_top_property : ℕ
margin_top_property = max_height_property + 1

abbrev pub margin_right_property : ℕ
margin_right_property = margin_top_property + 1

abbrev pub margin_bottom_property : ℕ
margin_bottom_property = margin_right_property + 1

abbrev pub margin_left_property : ℕ
margin_left_property = margin_bottom_property + 1

abbrev pub padding_top_property : ℕ
padding_top_property = margin_left_property + 1

abbrev pub padding_right_property : ℕ
padding_right_property = padding_top_property + 1

abbrev pub padding_bottom_property : ℕ
padding_bottom_property = padding_right_property + 1

abbrev pub padding_left_property : ℕ
padding_left_property = padding_bottom_property + 1

abbrev pub border_top_width_property : ℕ
border_top_width_property = padding_left_property + 1

abbrev pub border_right_width_property : ℕ
border_right_width_property = border_top_width_property + 1

abbrev pub border_bottom_width_property : ℕ
border_bottom_width_property = border_right_width_property + 1

abbrev pub border_left_width_property : ℕ
border_left_width_property = border_bottom_width_property + 1

abbrev pub border_top_style_property : ℕ
border_top_style_property = border_left_width_property + 1

abbrev pub border_right_style_property : ℕ
border_right_style_property = border_top_style_property + 1

abbrev pub border_bottom_style_property : ℕ
border_bottom_style_property = border_right_style_property + 1

abbrev pub border_left_style_property : ℕ
border_left_style_property = border_bottom_style_property + 1

abbrev pub border_top_color_property : ℕ
border_top_color_property = border_left_style_property + 1

abbrev pub border_right_color_property : ℕ
border_right_color_property = border_top_color_property + 1

abbrev pub border_bottom_color_property : ℕ
border_bottom_color_property = border_right_color_property + 1

abbrev pub border_left_color_property : ℕ
border_left_color_property = border_bottom_color_property + 1

abbrev pub background_color_property : ℕ
background_color_property = border_left_color_property + 1

abbrev pub font_size_property : ℕ
font_size_property = background_color_property + 1

abbrev pub font_weight_property : ℕ
font_weight_property = font_size_property + 1

abbrev pub font_style_property : ℕ
font_style_property = font_weight_property + 1

abbrev pub line_height_property : ℕ
line_height_property = font_style_property + 1

-- the width of the border at each side, and the style of it there
abbrev pub border_sides : List (ℕ × ℕ)
border_sides =
    (border_top_width_property, border_top_style_property)
    ∷ (border_right_width_property, border_right_style_property)
    ∷ (border_bottom_width_property, border_bottom_style_property)
    ∷ (border_left_width_property, border_left_style_property) ∷ []

-- names ignore ASCII case
abbrev pub property_named : Characters → Option ℕ
property_named name = position (λ row. is_word row.name name) table
