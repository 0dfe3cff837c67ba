-- What an entry of a map of custom properties stands for.
use Rattle.base_model.specs.Text.{Characters}
use Rattle.custom_model.specs.Value.{CustomValue}
use Rattle.css_tokens.specs.declared.custom.map.CustomEntry.{CustomEntry}

abbrev pub entry_of : CustomEntry → Characters × CustomValue
entry_of entry = (entry.name, entry.value)
