-- What parts of a value declare, and what is asked of a list of tokens.
use Rattle.std.specs.Prelude.{ℕ, List, [], flat_map, map, zip, Bool, Option, option_map, option_to_list, unwrap_or}
use Rattle.std.specs.List.{list_any}
use Rattle.std.specs.Option.{option_or}
use Rattle.base_model.specs.Lists.{every}
use Rattle.syntax_model.specs.Token.{Token, said}
use Rattle.syntax_model.specs.Rules.{Declaration}
use Rattle.custom_model.specs.Parts.{is_var, referring_value_in}
use Rattle.value_model.specs.Value.{Value}
use Rattle.sheet_model.specs.ValueIn.{value_in}
use Rattle.sheet_model.specs.Shorthands.{PropertyName, values_in}
use Rattle.sheet_model.specs.Declared.{Given, wide, exactly, referring, longhand, Declared, wide_in, givens_in, declared_each, declared_with}

-- whether `var(` is one of the tokens
abbrev pub has_var : List Token → Bool
has_var tokens = list_any (λ token. is_var (said token)) tokens

-- what tokens give any property that a name names: a CSS-wide keyword, or a value that refers to custom properties
abbrev pub common_given_in : PropertyName → List Token → Option Given
common_given_in property_name tokens =
    option_or (option_map wide (wide_in tokens)) (option_map (referring property_name) (referring_value_in tokens))

-- what a declaration of the property name declares
abbrev pub declared_for : Declaration → PropertyName → List Declared
declared_for declaration property_name =
    unwrap_or (option_map (declared_each declaration property_name) (givens_in property_name declaration.value)) []

-- and where its value is no such one: the value of each property, where all are taken
abbrev pub values_declared : Declaration → PropertyName → List Declared
values_declared declaration property_name =
    unwrap_or
    (option_map
    (λ values. declared_each declaration property_name (map exactly values))
    (values_in property_name declaration.value))
    []

-- what these tokens declare of one property
abbrev pub part_declared : Declaration → ℕ → List Token → List Declared
part_declared declaration property tokens =
    option_to_list
    (option_map
    (λ value. declared_with declaration (longhand property) (exactly value))
    (value_in property tokens))

-- what each part declares of its property
abbrev pub each_declared : Declaration → List ℕ → List (List Token) → List Declared
each_declared declaration properties parts =
    flat_map (λ pair. part_declared declaration pair.0 pair.1) (zip properties parts)

-- the same, where all are taken, and else nothing
abbrev pub parts_declared : Declaration → List ℕ → List (List Token) → List Declared
parts_declared declaration properties parts =
    unwrap_or
    (option_map
    (λ (values : List Value).
    map (λ pair. declared_with declaration (longhand pair.0) (exactly pair.1)) (zip properties values))
    (every (map (λ pair. value_in pair.0 pair.1) (zip properties parts))))
    []
