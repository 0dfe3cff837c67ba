-- The declarations of a block that are kept (css-syntax-3, sections 5 and 8; css-cascade-5, section 4.1;
-- css-variables-1, sections 2 and 3).
use Rattle.std.specs.Prelude.{ℕ, ◌==◌, List, [], map, zip, Bool, false, if◌then◌else◌, Option, option_map}
use Rattle.std.specs.Prelude.{option_to_list, flat_map, unwrap_or}
use Rattle.std.specs.Option.{option_or}
use Rattle.base_model.specs.Options.{◌>>=◌}
use Rattle.base_model.specs.Text.{Characters, same_text}
use Rattle.syntax_model.specs.Token.{Token, said}
use Rattle.syntax_model.specs.Wide.{Wide}
use Rattle.syntax_model.specs.Preprocess.{preprocessed}
use Rattle.syntax_model.specs.TokensIn.{tokens_in}
use Rattle.syntax_model.specs.Rules.{Declaration}
use Rattle.syntax_model.specs.RulesIn.{declarations_in}
use Rattle.custom_model.specs.Value.{CustomValue, is_custom_name}
use Rattle.custom_model.specs.Computed.{wide_of}
use Rattle.custom_model.specs.Parts.{custom_value_in, referring_value_in}
use Rattle.value_model.specs.Value.{Value}
use Rattle.value_model.specs.Table.{property_named}
use Rattle.value_model.specs.Shorthand.{short_named}
use Rattle.sheet_model.specs.Shorthands.{PropertyName, single, shorthand, longhands_named, values_in}

-- what is declared
pub data Target : Type 0 where
  longhand : ℕ → Target
  -- a custom property
  custom : Characters → Target

-- and what it is declared to be
pub data Given : Type 0 where
  wide : Wide → Given
  exactly : Value → Given
  -- tokens that refer to custom properties, which this property or shorthand takes once they are expanded
  referring : PropertyName → CustomValue → Given
  -- the value of a custom property
  holding : CustomValue → Given

pub record Declared : Type 0 where
  pub target : Target
  pub given : Given
  pub important : Bool

-- whether a target is this property
abbrev pub is_longhand : ℕ → Target → Bool
is_longhand property (longhand other) = other == property
is_longhand property (custom name) = false

-- whether it is the custom property of this name
abbrev pub is_custom : Characters → Target → Bool
is_custom name (longhand property) = false
is_custom name (custom other) = same_text other name

-- a CSS-wide keyword, where the tokens are one (css-cascade-5, section 7.3)
abbrev pub wide_in : List Token → Option Wide
wide_in tokens = wide_of (map said tokens)

-- the same for each property that is set
abbrev pub for_each : PropertyName → Given → List Given
for_each property_name given = map (λ id. given) (longhands_named property_name)

-- What tokens give each property that is set: every one takes the CSS-wide keywords, and values that refer to custom
-- properties.
abbrev pub givens_in : PropertyName → List Token → Option (List Given)
givens_in property_name tokens =
    option_or (option_map (λ word. for_each property_name (wide word)) (wide_in tokens))
    (option_or
    (option_map (λ value. for_each property_name (referring property_name value)) (referring_value_in tokens))
    (option_map (map exactly) (values_in property_name tokens)))

-- what tokens give a custom property
abbrev pub custom_given_in : List Token → Option Given
custom_given_in tokens =
    option_or (option_map wide (wide_in tokens)) (option_map holding (custom_value_in tokens))

-- a declaration of what is named, which gives it this
abbrev pub declared_with : Declaration → Target → Given → Declared
declared_with declaration target given =
    record { target = target; given = given; important = declaration.important }

-- what a declaration of a custom property declares: nothing where its value is invalid
abbrev pub custom_declared : Declaration → Option Declared
custom_declared declaration =
    option_map (declared_with declaration (custom declaration.name)) (custom_given_in declaration.value)

-- a property, or a shorthand
abbrev pub property_name_in : Characters → Option PropertyName
property_name_in name = option_or (option_map single (property_named name)) (option_map shorthand (short_named name))

-- a declaration for each property that a name names
abbrev pub declared_each : Declaration → PropertyName → List Given → List Declared
declared_each declaration property_name givens =
    map (λ pair. declared_with declaration (longhand pair.0) pair.1) (zip (longhands_named property_name) givens)

-- And of another: a shorthand stands for a declaration of each of its properties (css-cascade-5, section 3). Nothing
-- where its name is of none, or the value is not taken.
abbrev pub longhands_declared : Declaration → Option (List Declared)
longhands_declared declaration = do
  property_name ← property_name_in declaration.name
  option_map (declared_each declaration property_name) (givens_in property_name declaration.value)

abbrev pub declared_in : Declaration → List Declared
declared_in declaration =
    if is_custom_name declaration.name then option_to_list (custom_declared declaration)
    else unwrap_or (longhands_declared declaration) []

-- the declarations of a block that are kept, in its order
abbrev pub block_declared : List Token → List Declared
block_declared block = flat_map declared_in (declarations_in block)

-- and those of the text of a `style` attribute (css-style-attr, section 3)
unfoldable pub style_declared : Characters → List Declared
style_declared text = block_declared (tokens_in (preprocessed text))
