-- The computed value of a custom property that is on no cycle.
use Rattle.std.specs.Prelude.{Option, Some, None}
use Rattle.base_model.specs.Options.{◌>>=◌}
use Rattle.custom_model.specs.Value.{CustomValue, CustomValues}
use Rattle.std.specs.FinMap as finmap
use Rattle.custom_properties.specs.Entry.{Entry}
use Rattle.custom_model.specs.Expand.{Lookup, expansion}
use Rattle.custom_model.specs.Computed.{after_keyword}

-- what a value expands to, or what a CSS-wide keyword takes that arises by this
abbrev pub off_cycles : Lookup → Option CustomValue → CustomValue → Option CustomValue
off_cycles values inherited tokens = do
  result ← expansion values tokens
  after_keyword inherited result

-- the same of what is declared of a name
abbrev pub off_cycles_of : Lookup → Option CustomValue → Option CustomValue → Option CustomValue
off_cycles_of values inherited None = None
off_cycles_of values inherited (Some tokens) = off_cycles values inherited tokens

abbrev pub off_cycles_at : Lookup → CustomValues → Entry → Option CustomValue
off_cycles_at values inherited entry = off_cycles_of values (finmap.get inherited entry.0) entry.1
