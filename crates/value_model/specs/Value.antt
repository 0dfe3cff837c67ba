-- What a property can be set or computed to be.
use Rattle.std.specs.Prelude.{◌≡◌, ◌⊎◌, ℤ, Bool, false, ◌++◌, refl, codes}
use Rattle.std.specs.Ordering.{int_eq}
use Rattle.std.specs.Str.{bytes_eq}
use Rattle.std.specs.Coded.{Coded, code_by, coded⊎, coded_ℕ, coded_ℤ, coded_list}
use Rattle.std.proofs.Common.{inl, inr}
use Rattle.base_model.specs.Text.{Characters}
use Rattle.base_model.specs.Thousandths as thousandths
use Rattle.value_model.specs.Color.{Color, color_text, same_color, color_code}

-- A keyword is its lower-case text. Lengths, percentages and numbers are in thousandths.
pub data Value : Type 0 where
  keyword : Characters → Value
  color : Color → Value
  -- thousandths of a pixel
  pixels : ℤ → Value
  percent : ℤ → Value
  number : ℤ → Value
  -- thousandths of the font size of the element, and of that of the root (css-values-4, section 6.1)
  em : ℤ → Value
  rem : ℤ → Value

-- `currentcolor` stands for the element's own `color` (css-color-4, section 9)
abbrev pub current_color : Value
current_color = keyword (codes "currentcolor")

-- the text that stands for it (css-values-4, sections 2 and 5 to 6; css-color-4, section 15)
abbrev pub printed_value : Value → Characters
printed_value (keyword word) = word
printed_value (color c) = color_text c
printed_value (pixels z) = thousandths.printed_number z ++ codes "px"
printed_value (percent z) = thousandths.printed_number z ++ codes "%"
printed_value (number z) = thousandths.printed_number z
printed_value (em z) = thousandths.printed_number z ++ codes "em"
printed_value (rem z) = thousandths.printed_number z ++ codes "rem"

abbrev pub same_value : Value → Value → Bool
same_value (keyword a) (keyword b) = bytes_eq a b
same_value (color a) (color b) = same_color a b
same_value (pixels a) (pixels b) = int_eq a b
same_value (percent a) (percent b) = int_eq a b
same_value (number a) (number b) = int_eq a b
same_value (em a) (em b) = int_eq a b
same_value (rem a) (rem b) = int_eq a b
same_value a b = false

-- how a proof tells two values apart

abbrev pub ValueCase : Type 0
ValueCase = Characters ⊎ (Color ⊎ (ℤ ⊎ (ℤ ⊎ (ℤ ⊎ (ℤ ⊎ ℤ)))))

abbrev pub value_case : Value → ValueCase
value_case (keyword word) = inl word
value_case (color c) = inr (inl c)
value_case (pixels z) = inr (inr (inl z))
value_case (percent z) = inr (inr (inr (inl z)))
value_case (number z) = inr (inr (inr (inr (inl z))))
value_case (em z) = inr (inr (inr (inr (inr (inl z)))))
value_case (rem z) = inr (inr (inr (inr (inr (inr z)))))

abbrev pub value_from_case : ValueCase → Value
value_from_case (inl word) = keyword word
value_from_case (inr (inl c)) = color c
value_from_case (inr (inr (inl z))) = pixels z
value_from_case (inr (inr (inr (inl z)))) = percent z
value_from_case (inr (inr (inr (inr (inl z))))) = number z
value_from_case (inr (inr (inr (inr (inr (inl z)))))) = em z
value_from_case (inr (inr (inr (inr (inr (inr z)))))) = rem z

pub value_back : (value : Value) → value_from_case (value_case value) ≡ value
value_back (keyword word) = refl
value_back (color c) = refl
value_back (pixels z) = refl
value_back (percent z) = refl
value_back (number z) = refl
value_back (em z) = refl
value_back (rem z) = refl

abbrev pub value_code : Coded Value
value_code =
    code_by
    ValueCase
    (coded⊎ (coded_list coded_ℕ) (coded⊎ color_code
    (coded⊎ coded_ℤ (coded⊎ coded_ℤ (coded⊎ coded_ℤ (coded⊎ coded_ℤ coded_ℤ))))))
    value_case
    value_from_case
    value_back
