-- How the name of an `@layer` is read, part after part.
use Rattle.std.specs.Prelude.{List, [], ◌∷◌, Option, None, is_none, if◌then◌else◌}
use Rattle.base_model.specs.Text.{Characters}
use Rattle.base_model.specs.Options.{◌>>=◌}
use Rattle.layer_model.specs.Name.{named}
use Rattle.syntax_model.specs.Token.{Token}
use Rattle.syntax_model.specs.Wide.{wide_named}
use Rattle.syntax_model.specs.Rules.{Context}
use Rattle.syntax_model.specs.LayersIn.{name_in, layer_within}

-- the layer of the name that tokens are, in a context
abbrev pub layer_named : Context → List Token → Option Context
layer_named context tokens = do
  name ← name_in tokens
  layer_within context name

-- the layer of a name that is one step into a context, where the name is no CSS-wide keyword
abbrev pub named_within : Context → Characters → Option Context
named_within context name = if is_none (wide_named name) then layer_within context (named name ∷ []) else None
