-- The state that an `Expander` is in.
use Rattle.custom_properties.specs.Expanding.{ExpansionState, state_at}
use Rattle.custom_properties.specs.OutputView.{output_of}
use Rattle.custom_properties.specs.declared.expander.Expander.{Expander}

abbrev pub state_of : Expander → ExpansionState
state_of expander = state_at (output_of expander.output) expander.fallbacks.items
