-- The output that an `ExpansionOutput` is.
use Rattle.custom_properties.specs.Output as model
use Rattle.custom_properties.specs.declared.output.ExpansionOutput.{ExpansionOutput}

abbrev pub output_of : ExpansionOutput → model.ExpansionOutput
output_of output = model.output_at output.tokens.items output.is_spaced output.has_begun
