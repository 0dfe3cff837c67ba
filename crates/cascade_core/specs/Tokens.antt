-- What expanded tokens mean for a property.
use Rattle.std.specs.Prelude.{ℕ, ◌==◌, List, [], ◌∷◌, Option, Some, None, if◌then◌else◌, slice_get}
use Rattle.base_model.specs.Options.{◌>>=◌}
use Rattle.syntax_model.specs.Token.{Token}
use Rattle.syntax_model.specs.Wide.{Wide}
use Rattle.value_model.specs.Value.{Value}
use Rattle.sheet_model.specs.ValueIn.{value_in}
use Rattle.sheet_model.specs.Declared.{wide_in}
use Rattle.sheet_model.specs.Shorthands.{PropertyName, value_for}
use Rattle.cascade_model.specs.Ending.{Meaning, keyword, value_or_unset}

-- the keyword that they are, else the value that the property takes
abbrev pub keyword_or_value : Option Wide → Option Value → Meaning Value
keyword_or_value (Some word) value = keyword word
keyword_or_value None value = value_or_unset value

abbrev pub token_meaning : ℕ → PropertyName → List Token → Meaning Value
token_meaning property property_name tokens =
    keyword_or_value (wide_in tokens) (value_for property_name property tokens)

-- the value of a property in its part, where each of these properties has one
abbrev pub value_among : ℕ → List ℕ → List (List Token) → Option Value
value_among property [] parts = None
value_among property (other ∷ others) [] = None
value_among property (other ∷ others) (part ∷ parts) =
    if other == property then value_in property part else value_among property others parts

-- of the values of these properties that of one
abbrev pub among : ℕ → List ℕ → List (Option Value) → Option Value
among property [] values = None
among property (other ∷ others) [] = None
among property (other ∷ others) (value ∷ values) =
    if other == property then value else among property others values

-- the value of the property at a place in its part, if there is one
abbrev pub value_place : ℕ → List ℕ → List (List Token) → Option Value
value_place place ids parts = do
  id ← slice_get ids place
  part ← slice_get parts place
  value_in id part
