-- What values are read from tokens, computed.
use Rattle.std.proofs.Common.{◌≡◌, ℕ, true, List, [], ◌∷◌, ◌++◌, length, map, replicate, Option, Some, None, is_none, refl}
use Rattle.std.specs.Prelude.{codes}
use Rattle.base_model.specs.Text.{Characters}
use Rattle.value_model.specs.Color.{Color, opaque, rgba, transparent, black, named_colors}
use Rattle.value_model.specs.Value.{Value, color, current_color}
use Rattle.value_model.specs.Table.{table, color_property, display_property, direction_property, position_property}
use Rattle.value_model.specs.Table.{float_property, clear_property, visibility_property, overflow_x_property}
use Rattle.value_model.specs.Table.{overflow_y_property, border_top_style_property, border_left_style_property}
use Rattle.value_model.specs.Table.{background_color_property, font_size_property, font_weight_property}
use Rattle.value_model.specs.Table.{font_style_property, line_height_property}
use Rattle.value_model.specs.Shorthand.{longhands_of, border_color, border_style, overflow}
use Rattle.syntax_model.specs.Numbers.{thousandths}
use Rattle.syntax_model.specs.TokensIn.{tokens_in}
use Rattle.sheet_model.specs.ValueIn.{value_in, units}
use Rattle.sheet_model.proofs.ExampleCases.{reads, reads_none, words}

abbrev colors : List Color → List (Option Value)
colors list = map (λ c. Some (color c)) list

-- keywords in any case
displays : reads display_property (codes "inLine" ∷ codes "BLOCK" ∷ codes "Inline-block" ∷ codes "flEx" ∷ codes "inline-FLEX" ∷ codes "None" ∷ []) ≡ words (codes "inline" ∷ codes "block" ∷ codes "inline-block" ∷ codes "flex" ∷ codes "inline-flex" ∷ codes "none" ∷ [])
unfolding value_in tokens_in table
displays = refl

clears : reads clear_property (codes "nonE" ∷ codes "Left" ∷ codes "rIGHt" ∷ codes "both" ∷ []) ≡ words (codes "none" ∷ codes "left" ∷ codes "right" ∷ codes "both" ∷ [])
unfolding value_in tokens_in table
clears = refl

visibilities : reads visibility_property (codes "visiBLE" ∷ codes "Hidden" ∷ codes "collaPse" ∷ []) ≡ words (codes "visible" ∷ codes "hidden" ∷ codes "collapse" ∷ [])
unfolding value_in tokens_in table
visibilities = refl

directions : reads direction_property (codes "ltr" ∷ codes "RTL" ∷ []) ≡ words (codes "ltr" ∷ codes "rtl" ∷ [])
unfolding value_in tokens_in table
directions = refl

positions : reads position_property (codes "static" ∷ codes "Relative" ∷ codes "ABSOLUTE" ∷ codes "fiXed" ∷ codes "stickY" ∷ []) ≡ words (codes "static" ∷ codes "relative" ∷ codes "absolute" ∷ codes "fixed" ∷ codes "sticky" ∷ [])
unfolding value_in tokens_in table
positions = refl

floats : reads float_property (codes "none" ∷ codes "LEFT" ∷ codes "Right" ∷ []) ≡ words (codes "none" ∷ codes "left" ∷ codes "right" ∷ [])
unfolding value_in tokens_in table
floats = refl

overflows : map (λ property. reads property (codes "visible" ∷ codes "hidden" ∷ codes "SCROLL" ∷ codes "Auto" ∷ [])) (longhands_of overflow) ≡ map (λ (property : ℕ). words (codes "visible" ∷ codes "hidden" ∷ codes "scroll" ∷ codes "auto" ∷ [])) (longhands_of overflow)
unfolding value_in tokens_in table
overflows = refl

abbrev styles : List Characters
styles =
    codes "none" ∷ codes "hidden" ∷ codes "dotted" ∷ codes "dashed" ∷ codes "solid" ∷ codes "double" ∷ codes "groove"
    ∷ codes "ridge" ∷ codes "inset" ∷ codes "outset" ∷ []

border_styles : map (λ property. reads property styles) (longhands_of border_style) ≡ map (λ (property : ℕ). words styles) (longhands_of border_style)
unfolding value_in tokens_in table
border_styles = refl

font_styles : reads font_style_property (codes "normal" ∷ codes "Italic" ∷ codes "OBLIQUE" ∷ []) ≡ words (codes "normal" ∷ codes "italic" ∷ codes "oblique" ∷ [])
unfolding value_in tokens_in table
font_styles = refl

-- the words of other properties are none of these
no_words : map (λ (pair : ℕ × Characters). is_none (value_in pair.0 (tokens_in pair.1))) (
    (direction_property, codes "left") ∷ (position_property, codes "none") ∷ (float_property, codes "both")
    ∷ (clear_property, codes "inline-start") ∷ (overflow_x_property, codes "clip")
    ∷ (overflow_y_property, codes "collapse") ∷ (border_top_style_property, codes "thin")
    ∷ (border_left_style_property, codes "auto") ∷ (font_style_property, codes "bold")
    ∷ (font_style_property, codes "oblique 10deg") ∷ (line_height_property, codes "auto")
    ∷ (font_weight_property, codes "medium") ∷ (font_size_property, codes "bold") ∷ (length table, codes "none") ∷ []
    ) ≡ replicate 14 true
unfolding value_in tokens_in table units thousandths
no_words = refl

current : reads color_property (codes "CurrentColor" ∷ []) ≡ Some current_color ∷ []
unfolding value_in tokens_in table
current = refl

-- colours by name
abbrev color_names : List Characters
color_names =
    codes "Aqua" ∷ codes "bLack" ∷ codes "blUE" ∷ codes "FUCHSIA" ∷ codes "grAy" ∷ codes "greeN"
    ∷ codes "Lime" ∷ codes "maroON" ∷ codes "nAVy" ∷ codes "Olive" ∷ codes "orANGe" ∷ codes "PURple"
    ∷ codes "red" ∷ codes "silveR" ∷ codes "TEAL" ∷ codes "TransParent" ∷ codes "white" ∷ codes "yelloW" ∷ []

abbrev their_colors : List Color
their_colors =
    opaque 0 255 255 ∷ black ∷ opaque 0 0 255 ∷ opaque 255 0 255 ∷ opaque 128 128 128 ∷ opaque 0 128 0
    ∷ opaque 0 255 0 ∷ opaque 128 0 0 ∷ opaque 0 0 128 ∷ opaque 128 128 0 ∷ opaque 255 165 0 ∷ opaque 128 0 128
    ∷ opaque 255 0 0 ∷ opaque 192 192 192 ∷ opaque 0 128 128 ∷ transparent ∷ opaque 255 255 255 ∷ opaque 255 255 0 ∷ []

by_name : reads color_property color_names ≡ colors their_colors
unfolding value_in tokens_in table named_colors
by_name = refl

-- colours in hexadecimal
abbrev hexadecimals : List Characters
hexadecimals =
    codes "#123" ∷ codes "#abc" ∷ codes "#DEF" ∷ codes "#0f00" ∷ codes "#aB9e"
    ∷ codes "#123456" ∷ codes "#aBcDeF" ∷ codes "#789aBCde" ∷ codes "#FEDCBA98" ∷ codes "#00000000" ∷ []

by_digits : reads color_property hexadecimals ≡ colors (
    opaque 17 34 51
    ∷ opaque 170 187 204 ∷ opaque 221 238 255 ∷ rgba 0 255 0 0 ∷ rgba 170 187 153 238
    ∷ opaque 18 52 86 ∷ opaque 171 205 239 ∷ rgba 120 154 188 222 ∷ rgba 254 220 186 152 ∷ transparent ∷ []
    )
unfolding value_in tokens_in table
by_digits = refl

-- `rgb()` of three integers: each is brought within 0 and 255
abbrev functions : List Characters
functions =
    codes "rgb(1,2,3)" ∷ codes "rgb( 1 ,\t2\n, 3 )" ∷ codes "RGB(300, -5, 7)" ∷ codes "rgb(+12,007,-0)"
    ∷ codes "rgb(255,256,254)" ∷ codes "\\72 gb(4,5,6)" ∷ codes "rgb(/**/7,/**/ 8/**/,9/**/)" ∷ codes "rgb(99999999999999999999,0,0)"
    ∷ codes "rgb(0,0,0)/**/" ∷ []

by_parts : reads color_property functions ≡ colors (
    opaque 1 2 3
    ∷ opaque 1 2 3 ∷ opaque 255 0 7 ∷ opaque 12 7 0
    ∷ opaque 255 255 254 ∷ opaque 4 5 6 ∷ opaque 7 8 9 ∷ opaque 255 0 0
    ∷ black ∷ []
    )
unfolding value_in tokens_in table named_colors thousandths
by_parts = refl

no_functions : reads_none color_property (
    codes "rgb(1.0,2,3)" ∷ codes "rgb(1,2.5,3)" ∷ codes "rgb(1,2,1e1)" ∷ codes "rgb(1%,2%,3%)" ∷ codes "rgb(1,2,3px)"
    ∷ codes "rgb()" ∷ codes "rgb(1)" ∷ codes "rgb(1,2)" ∷ codes "rgb(1,2,3,4)" ∷ codes "rgb(1,2,3,)" ∷ codes "rgb(,1,2)"
    ∷ codes "rgb(1,,2)" ∷ codes "rgb(1 2 3)" ∷ codes "rgb(1,2,3" ∷ codes "rgb(1,2,3))" ∷ codes "rgb(1,2,3) " ∷ codes "rgb(1,2,3]"
    ∷ codes "rgb (1,2,3)" ∷ codes "rgb((1),2,3)" ∷ codes "rgba(1,2,3,1)" ∷ codes "hsl(1,2,3)" ∷ codes "rgb(1;2;3)" ∷ codes "rgb(red)" ∷ []
    )
unfolding value_in tokens_in table named_colors thousandths
no_functions = refl

-- the colours of borders and of the background are read likewise
other_colors : map (λ property. reads property (codes "Red" ∷ codes "#0f00" ∷ codes "rgb(1,2,3)" ∷ codes "currentColor" ∷ codes "none" ∷ [])) (longhands_of border_color ++ background_color_property ∷ []) ≡ replicate 5 (Some (color (opaque 255 0 0)) ∷ Some (color (rgba 0 255 0 0)) ∷ Some (color (opaque 1 2 3)) ∷ Some current_color ∷ None ∷ [])
unfolding value_in tokens_in table named_colors thousandths
other_colors = refl

-- texts that are no value

no_hexadecimals : reads_none color_property (
    codes "#1" ∷ codes "#12" ∷ codes "#12345" ∷ codes "#1234567" ∷ codes "#123456789" ∷ codes "#12g" ∷ codes "#ggg"
    ∷ codes "#abcdefgh" ∷ codes "#12-" ∷ (codes "#" ++ 233 ∷ codes "12") ∷ (codes "#" ++ 233 ∷ codes "a")
    ∷ codes "# 123" ∷ codes "123" ∷ codes "#123 " ∷ codes "#123#123" ∷ []
    )
unfolding value_in tokens_in table named_colors
no_hexadecimals = refl

no_color_names : reads_none color_property (
    [] ∷ codes " " ∷ codes "abc" ∷ codes "re" ∷ codes "redd" ∷ codes "current-color" ∷ codes "currentcolo"
    ∷ (383 ∷ codes "ilver") ∷ codes " red" ∷ codes "red " ∷ codes "red red" ∷ codes "red blue" ∷ codes "red,"
    ∷ codes "(red)" ∷ codes "inherit" ∷ codes "initial" ∷ codes "unset" ∷ codes "block" ∷ codes "none"
    ∷ codes "rgb" ∷ codes "rgb(" ∷ codes "*" ∷ []
    )
unfolding value_in tokens_in table named_colors
no_color_names = refl

no_displays : reads_none display_property (
    codes "left" ∷ codes "hidden" ∷ codes "red" ∷ codes "currentcolor" ∷ codes "inherit" ∷ codes "#123"
    ∷ codes "#block" ∷ codes "block " ∷ codes " block" ∷ codes "block flex" ∷ codes "inlineblock"
    ∷ codes "inline block" ∷ codes "inline-" ∷ (codes "bloc" ++ 8490 ∷ []) ∷ [] ∷ []
    )
unfolding value_in tokens_in table
no_displays = refl

no_clears : reads_none clear_property (codes "block" ∷ codes "visible" ∷ codes "inherit" ∷ codes "none," ∷ [])
unfolding value_in tokens_in table
no_clears = refl

no_visibilities : reads_none visibility_property (codes "none" ∷ codes "inline" ∷ codes "both" ∷ codes "black" ∷ codes "inherit" ∷ codes "visible(hidden)" ∷ [])
unfolding value_in tokens_in table
no_visibilities = refl
