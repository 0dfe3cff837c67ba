-- What the parts of a value declare, one after another, is what the value declares.
use Rattle.std.proofs.Common.{◌≡◌, ℕ, List, [], ◌∷◌, ◌++◌, map, zip, true, false, Option, Some, None, is_some, option_map, unwrap_or, refl, sym, ap, ◌∙◌}
use Rattle.std.specs.Option.{option_or, option_to_list}
use Rattle.base_model.specs.Options.{◌>>=◌}
use Rattle.base_model.specs.Lists.{every}
use Rattle.syntax_model.specs.Token.{Token}
use Rattle.syntax_model.specs.Wide.{Wide}
use Rattle.syntax_model.specs.Rules.{Declaration}
use Rattle.custom_model.specs.Value.{CustomValue}
use Rattle.custom_model.specs.Parts.{referring_value_in}
use Rattle.value_model.specs.Value.{Value}
use Rattle.value_model.specs.Shorthand.{Short}
use Rattle.sheet_model.specs.ValueIn.{value_in}
use Rattle.sheet_model.specs.Shorthands.{PropertyName, single, shorthand, longhands_named, split, values_in}
use Rattle.sheet_model.specs.Declared.{Given, wide, exactly, referring, longhand, Declared, wide_in, for_each, declared_each, declared_with}
use Rattle.sheet_set.specs.Parts.{common_given_in, each_declared, part_declared, parts_declared, declared_for, values_declared}

-- the value of each property in its part, where all are taken
abbrev values_of : List ℕ → List (List Token) → Option (List Value)
values_of properties parts = every (map (λ pair. value_in pair.0 pair.1) (zip properties parts))

abbrev with_values : Declaration → List ℕ → List Value → List Declared
with_values declaration properties values =
    map (λ pair. declared_with declaration (longhand pair.0) (exactly pair.1)) (zip properties values)

-- one part more
part_taken : (declaration : Declaration) (property : ℕ) (properties : List ℕ) (o : Option Value) (values : Option (List Value)) (rest : List Declared)
    → is_some (o >>= (λ x. values >>= (λ xs. Some (x ∷ xs)))) ≡ true
    → (is_some values ≡ true → unwrap_or (option_map (with_values declaration properties) values) [] ≡ rest)
    → unwrap_or (option_map (with_values declaration (property ∷ properties)) (o >>= (λ x. values >>= (λ xs. Some (x ∷ xs))))) []
    ≡ option_to_list (option_map (λ value. declared_with declaration (longhand property) (exactly value)) o) ++ rest
part_taken declaration property properties None values rest all next = cc
part_taken declaration property properties (Some x) None rest all next = cc
part_taken declaration property properties (Some x) (Some xs) rest all next = ap (λ l. declared_with declaration (longhand property) (exactly x) ∷ l) (next refl)

-- where all are taken, each is
pub all_taken : (declaration : Declaration) (properties : List ℕ) (parts : List (List Token)) → is_some (values_of properties parts) ≡ true → parts_declared declaration properties parts ≡ each_declared declaration properties parts
all_taken declaration [] parts all = refl
all_taken declaration (property ∷ properties) [] all = refl
all_taken declaration (property ∷ properties) (part ∷ parts) all =
    part_taken declaration property properties (value_in property part) (values_of properties parts) (each_declared declaration properties parts) all (all_taken declaration properties parts)

none_of : (declaration : Declaration) (properties : List ℕ) (values : Option (List Value)) → is_some values ≡ false → unwrap_or (option_map (with_values declaration properties) values) [] ≡ []
none_of declaration properties None none = refl
none_of declaration properties (Some values) none = cc

-- and where one is not, nothing is declared
pub not_taken : (declaration : Declaration) (properties : List ℕ) (parts : List (List Token)) → is_some (values_of properties parts) ≡ false → parts_declared declaration properties parts ≡ []
not_taken declaration properties parts none = none_of declaration properties (values_of properties parts) none

-- a value for each, as what each is given
with_given : (declaration : Declaration) (properties : List ℕ) (values : List Value) → with_values declaration properties values ≡ map (λ pair. declared_with declaration (longhand pair.0) pair.1) (zip properties (map exactly values))
with_given declaration [] values = refl
with_given declaration (property ∷ properties) [] = refl
with_given declaration (property ∷ properties) (value ∷ values) =
    ap (λ l. declared_with declaration (longhand property) (exactly value) ∷ l) (with_given declaration properties values)

-- of a property alone
pub one_value : (declaration : Declaration) (property : ℕ) → part_declared declaration property declaration.value ≡ values_declared declaration (single property)
one_value declaration property = by (value_in property declaration.value) where
  by : (o : Option Value) → option_to_list (option_map (λ value. declared_with declaration (longhand property) (exactly value)) o) ≡ unwrap_or (option_map (λ values. declared_each declaration (single property) (map exactly values)) (o >>= (λ x. Some (x ∷ [])))) []
  by None = refl
  by (Some value) = refl

-- and of a shorthand
short_values : (declaration : Declaration) (short : Short) (values : Option (List Value)) → unwrap_or (option_map (with_values declaration (longhands_named (shorthand short))) values) [] ≡ unwrap_or (option_map (λ values. declared_each declaration (shorthand short) (map exactly values)) values) []
short_values declaration short None = refl
short_values declaration short (Some values) = with_given declaration (longhands_named (shorthand short)) values

pub short_split : (declaration : Declaration) (short : Short) (parts : List (List Token)) → split short declaration.value ≡ Some parts → parts_declared declaration (longhands_named (shorthand short)) parts ≡ values_declared declaration (shorthand short)
short_split declaration short parts is =
    short_values declaration short (values_of (longhands_named (shorthand short)) parts)
    ∙ ap (λ (o : Option (List (List Token))). unwrap_or (option_map (λ values. declared_each declaration (shorthand short) (map exactly values)) (o >>= (λ parts. every (map (λ pair. value_in pair.0 pair.1) (zip (longhands_named (shorthand short)) parts))))) []) (sym is)

pub short_unsplit : (declaration : Declaration) (short : Short) → split short declaration.value ≡ None → values_declared declaration (shorthand short) ≡ []
short_unsplit declaration short is =
    ap (λ (o : Option (List (List Token))). unwrap_or (option_map (λ values. declared_each declaration (shorthand short) (map exactly values)) (o >>= (λ parts. every (map (λ pair. value_in pair.0 pair.1) (zip (longhands_named (shorthand short)) parts))))) []) is

-- the same given to each property
pub each_given : (declaration : Declaration) (properties : List ℕ) (given : Given) → map (λ pair. declared_with declaration (longhand pair.0) pair.1) (zip properties (map (λ id. given) properties)) ≡ map (λ property. declared_with declaration (longhand property) given) properties
each_given declaration [] given = refl
each_given declaration (property ∷ properties) given =
    ap (λ l. declared_with declaration (longhand property) given ∷ l) (each_given declaration properties given)

-- what every property takes is taken first
in_cases : (declaration : Declaration) (property_name : PropertyName) (word : Option Wide) (value : Option CustomValue) (values : Option (List Value)) (given : Option Given)
    → given ≡ option_or (option_map wide word) (option_map (referring property_name) value)
    → unwrap_or (option_map (declared_each declaration property_name) (option_or (option_map (λ word. for_each property_name (wide word)) word) (option_or (option_map (λ value. for_each property_name (referring property_name value)) value) (option_map (map exactly) values)))) []
    ≡ elim given [ Some g ↦ declared_each declaration property_name (for_each property_name g) | None ↦ unwrap_or (option_map (λ values. declared_each declaration property_name (map exactly values)) values) [] ]
in_cases declaration property_name (Some word) value values given is = rw is refl
in_cases declaration property_name None (Some value) values given is = rw is refl
in_cases declaration property_name None None None given is = rw is refl
in_cases declaration property_name None None (Some values) given is = rw is refl

pub common_first : (declaration : Declaration) (property_name : PropertyName) (given : Given) → common_given_in property_name declaration.value ≡ Some given → declared_for declaration property_name ≡ map (λ property. declared_with declaration (longhand property) given) (longhands_named property_name)
common_first declaration property_name given is =
    in_cases declaration property_name (wide_in declaration.value) (referring_value_in declaration.value) (values_in property_name declaration.value) (Some given) (sym is)
    ∙ each_given declaration (longhands_named property_name) given

pub values_else : (declaration : Declaration) (property_name : PropertyName) → common_given_in property_name declaration.value ≡ None → declared_for declaration property_name ≡ values_declared declaration property_name
values_else declaration property_name is =
    in_cases declaration property_name (wide_in declaration.value) (referring_value_in declaration.value) (values_in property_name declaration.value) None (sym is)
