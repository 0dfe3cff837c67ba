-- What a custom property is declared to be.
use Rattle.std.specs.Prelude.{Option}
use Rattle.base_model.specs.Text.{Characters}
use Rattle.custom_model.specs.Value.{CustomValue}

abbrev pub Entry : Type 0
Entry = Characters × Option CustomValue
