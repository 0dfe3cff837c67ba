-- The custom properties of an element, by the declarations that apply to it, over those of its parent
-- (css-variables-1).
use Rattle.std.specs.Prelude.{List, Option, Some, None, option_map, filter_map}
use Rattle.std.specs.FinMap as finmap
use Rattle.base_model.specs.Text.{Characters}
use Rattle.custom_model.specs.Value.{CustomValue, CustomValues}
use Rattle.custom_model.specs.Cycles.{DeclaredValues}
use Rattle.custom_model.specs.Computed.{resolved}
use Rattle.sheet_model.specs.Declared.{Target, longhand, custom}
use Rattle.cascade_model.specs.Key.{Matched}
use Rattle.cascade_model.specs.Ending.{Ending, inherits, initially, unsets, ends_at, custom_ending}

abbrev pub custom_name : Target → Option Characters
custom_name (longhand property) = None
custom_name (custom name) = Some name

-- the custom properties that some declaration is of
abbrev pub custom_names : List Matched → List Characters
custom_names ds = filter_map (λ d. custom_name d.target) ds

-- What a custom property is declared to be by what its declarations come to: nothing where it inherits, and the
-- initial value is the guaranteed-invalid one (section 2).
abbrev pub declared_value : Ending CustomValue → Option (Option CustomValue)
declared_value inherits = None
declared_value initially = Some None
declared_value unsets = None
declared_value (ends_at tokens) = Some (Some tokens)

abbrev pub declared_entry : List Matched → Characters → Option (Characters × Option CustomValue)
declared_entry ds name = option_map (λ declared. (name, declared)) (declared_value (custom_ending name ds))

-- what is declared for each of them
unfoldable pub declared_values : List Matched → DeclaredValues
declared_values ds = finmap.from_entries (filter_map (declared_entry ds) (custom_names ds))

-- their values
abbrev pub custom_values : CustomValues → List Matched → CustomValues
custom_values parents ds = resolved (declared_values ds) parents
