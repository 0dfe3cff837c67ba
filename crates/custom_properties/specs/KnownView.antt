-- The values that are known.
use Rattle.std.specs.Prelude.{ℕ, List, Option, Some, None, slice_get}
use Rattle.std.specs.FinMap as finmap
use Rattle.std.specs.Option.{option_flatten}
use Rattle.custom_model.specs.Value.{CustomValue, CustomValues}
use Rattle.custom_model.specs.Expand.{Lookup}
use Rattle.custom_model.specs.Cycles.{DeclaredValues}
use Rattle.css_tokens.specs.Place.{place_in}
use Rattle.custom_properties.specs.declared.known.Known.{Known}

-- the value at the place of a declared name, and else what others have
abbrev pub value_at : List (Option CustomValue) → Option CustomValue → Option ℕ → Option CustomValue
value_at values other None = other
value_at values other (Some place) = option_flatten (slice_get values place)

abbrev pub known_in : DeclaredValues → List (Option CustomValue) → CustomValues → Lookup
known_in declared values others name =
    value_at values (finmap.get others name) (place_in (finmap.entries declared) name)

abbrev pub known_value : Known → Lookup
known_value known = known_in known.declared.now known.values.now known.others.now
