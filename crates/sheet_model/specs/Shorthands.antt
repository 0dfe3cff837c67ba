-- The parts of a shorthand's value (css-cascade-5, section 3), and the values that they are of its properties.
use Rattle.std.specs.Prelude.{ℕ, List, [], ◌∷◌, filter, map, not, zip, find, ◌==◌, Option, Some, None, option_map}
use Rattle.base_model.specs.Options.{◌>>=◌}
use Rattle.base_model.specs.Lists.{is_nil, every}
use Rattle.syntax_model.specs.Token.{Token}
use Rattle.syntax_model.specs.TokenKinds.{is_white}
use Rattle.syntax_model.specs.Outside.{parts_between}
use Rattle.value_model.specs.Value.{Value}
use Rattle.value_model.specs.Shorthand.{Short, overflow, all}
use Rattle.value_model.specs.Shorthand.{longhands_of}
use Rattle.sheet_model.specs.ValueIn.{value_in}

-- what stands between whitespace outside brackets
abbrev pub slices : List Token → List (List Token)
slices tokens = filter (λ slice. not (is_nil slice)) (parts_between is_white tokens)

-- One to four values are for top, right, bottom and left: a missing right is the top, a missing bottom the top, a
-- missing left the right (CSS 2.2, section 8.3).
abbrev pub four_sides : {A : Type 0} → List A → Option (List A)
four_sides (a ∷ []) = Some (a ∷ a ∷ a ∷ a ∷ [])
four_sides (a ∷ b ∷ []) = Some (a ∷ b ∷ a ∷ b ∷ [])
four_sides (a ∷ b ∷ c ∷ []) = Some (a ∷ b ∷ c ∷ b ∷ [])
four_sides (a ∷ b ∷ c ∷ d ∷ []) = Some (a ∷ b ∷ c ∷ d ∷ [])
four_sides list = None

-- one or two values are for both axes (css-overflow-3, section 3.2)
abbrev pub two_axes : {A : Type 0} → List A → Option (List A)
two_axes (a ∷ []) = Some (a ∷ a ∷ [])
two_axes (a ∷ b ∷ []) = Some (a ∷ b ∷ [])
two_axes list = None

abbrev pub by_longhand : {A : Type 0} → Short → List A → Option (List A)
by_longhand overflow list = two_axes list
by_longhand all list = None
by_longhand short list = four_sides list

-- a slice of the value for each longhand; `all` takes no values
abbrev pub split : Short → List Token → Option (List (List Token))
split short tokens = by_longhand short (slices tokens)

-- what the name of a declaration names, but for a custom property
pub data PropertyName : Type 0 where
  single : ℕ → PropertyName
  shorthand : Short → PropertyName

-- the properties that it sets
abbrev pub longhands_named : PropertyName → List ℕ
longhands_named (single id) = id ∷ []
longhands_named (shorthand short) = longhands_of short

-- the part of the value for each of them
abbrev pub parts_named : PropertyName → List Token → Option (List (List Token))
parts_named (single id) tokens = Some (tokens ∷ [])
parts_named (shorthand short) tokens = split short tokens

-- the value of each, where all are taken
abbrev pub values_in : PropertyName → List Token → Option (List Value)
values_in property_name tokens = do
  parts ← parts_named property_name tokens
  every (map (λ pair. value_in pair.0 pair.1) (zip (longhands_named property_name) parts))

-- the value of one of them
abbrev pub value_for : PropertyName → ℕ → List Token → Option Value
value_for property_name id tokens = do
  values ← values_in property_name tokens
  option_map (λ pair. pair.1) (find (λ pair. pair.0 == id) (zip (longhands_named property_name) values))
