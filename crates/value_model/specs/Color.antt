-- Colours (css-color-4, sections 4 to 6 and 15).
use Rattle.std.specs.Prelude.{ℕ, ◌/◌, ◌%◌, ◌==◌, List, [], ◌∷◌, ◌++◌, Bool, ◌&&◌, if◌then◌else◌, codes, refl}
use Rattle.std.specs.Char.{digit_char}
use Rattle.std.specs.Coded.{Coded, code_by, coded×, coded_ℕ}
use Rattle.base_model.specs.Ascii.{number_sign}
use Rattle.base_model.specs.Text.{Characters}

-- in sRGB, each part from 0 to 255
pub record Color : Type 0 where
  pub red : ℕ
  pub green : ℕ
  pub blue : ℕ
  pub alpha : ℕ

abbrev pub rgba : ℕ → ℕ → ℕ → ℕ → Color
rgba red green blue alpha = record { red = red; green = green; blue = blue; alpha = alpha }

abbrev pub opaque : ℕ → ℕ → ℕ → Color
opaque red green blue = rgba red green blue 255

abbrev pub black : Color
black = opaque 0 0 0

abbrev pub transparent : Color
transparent = rgba 0 0 0 0

-- two digits in hexadecimal, in lower case
abbrev pub two_digits : ℕ → Characters
two_digits n = digit_char (n / 16) ∷ digit_char (n % 16) ∷ []

-- an alpha of 255 is left out
abbrev pub alpha_digits : ℕ → Characters
alpha_digits alpha = if alpha == 255 then [] else two_digits alpha

-- `#rrggbb`, or `#rrggbbaa`
abbrev pub color_text : Color → Characters
color_text c = number_sign ∷ (two_digits c.red ++ (two_digits c.green ++ (two_digits c.blue ++ alpha_digits c.alpha)))

abbrev pub same_color : Color → Color → Bool
same_color a b = (a.red == b.red) && ((a.green == b.green) && ((a.blue == b.blue) && (a.alpha == b.alpha)))

pub record NamedColor : Type 0 where
  pub name : Characters
  pub color : Color

abbrev pub named : Characters → Color → NamedColor
named name color = record { name = name; color = color }

-- the names that are read, in lower case (css-color-4, sections 6.1 and 6.3)
unfoldable pub named_colors : List NamedColor
named_colors =
    named (codes "aqua") (opaque 0 255 255)
    ∷ named (codes "black") black
    ∷ named (codes "blue") (opaque 0 0 255)
    ∷ named (codes "fuchsia") (opaque 255 0 255)
    ∷ named (codes "gray") (opaque 128 128 128)
    ∷ named (codes "green") (opaque 0 128 0)
    ∷ named (codes "lime") (opaque 0 255 0)
    ∷ named (codes "maroon") (opaque 128 0 0)
    ∷ named (codes "navy") (opaque 0 0 128)
    ∷ named (codes "olive") (opaque 128 128 0)
    ∷ named (codes "orange") (opaque 255 165 0)
    ∷ named (codes "purple") (opaque 128 0 128)
    ∷ named (codes "red") (opaque 255 0 0)
    ∷ named (codes "silver") (opaque 192 192 192)
    ∷ named (codes "teal") (opaque 0 128 128)
    ∷ named (codes "transparent") transparent
    ∷ named (codes "white") (opaque 255 255 255)
    ∷ named (codes "yellow") (opaque 255 255 0)
    ∷ []

-- how a proof tells two colours apart
abbrev pub color_code : Coded Color
color_code =
    code_by (ℕ × (ℕ × (ℕ × ℕ))) (coded× coded_ℕ (coded× coded_ℕ (coded× coded_ℕ coded_ℕ)))
    (λ c. (c.red, (c.green, (c.blue, c.alpha))))
    (λ p. record { red = p.0; green = p.1.0; blue = p.1.1.0; alpha = p.1.1.1 })
    (λ _. refl)
