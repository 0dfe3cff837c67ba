-- The text that is kept of custom properties.
use Rattle.std.specs.Prelude.{[], Option, None, Some}
use Rattle.std.specs.Arc.{arc_value}
use Rattle.std.specs.declared.sync.Arc.{Arc}
use Rattle.base_model.specs.Text.{Characters}

abbrev pub kept_text : {A : Type 0} → Option (Arc Characters A) → Characters
kept_text None = []
kept_text (Some text) = arc_value text
