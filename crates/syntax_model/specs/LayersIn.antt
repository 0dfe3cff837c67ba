-- Which layers an `@layer` rule declares (css-cascade-5, section 6.4).
use Rattle.std.specs.Prelude.{ℕ, nat_le, List, [], ◌∷◌, ◌++◌, length, map, Bool, ◌&&◌, if◌then◌else◌}
use Rattle.std.specs.Prelude.{Option, Some, None, is_none}
use Rattle.base_model.specs.Ascii.{full_stop}
use Rattle.base_model.specs.Lists.{is_nil, split_by, every}
use Rattle.base_model.specs.Options.{◌>>=◌}
use Rattle.layer_model.specs.Name.{Part, named, anonymous, LayerName, part_limit}
use Rattle.syntax_model.specs.Token.{Token}
use Rattle.syntax_model.specs.TokenKinds.{is_ident, is_delim, is_comma, without_white, trimmed}
use Rattle.syntax_model.specs.Wide.{wide_named}
use Rattle.syntax_model.specs.Rules.{SheetEdition, Context}

-- an identifier that is no CSS-wide keyword
abbrev pub part_in : Token → Option Part
part_in token = if is_ident token.kind && is_none (wide_named token.name) then Some (named token.name) else None

-- a name: identifiers joined by full stops, without whitespace
abbrev mutual
  pub name_in : List Token → Option LayerName
  name_in [] = None
  name_in (token ∷ tokens) = do
    part ← part_in token
    rest ← parts_after tokens
    Some (part ∷ rest)

  pub parts_after : List Token → Option LayerName
  parts_after [] = Some []
  parts_after (token ∷ tokens) = if is_delim full_stop token.kind then name_in tokens else None

-- names with commas between them
abbrev pub names_in : List Token → Option (List LayerName)
names_in tokens = every (map (λ part. name_in (trimmed part)) (split_by (λ token. is_comma token.kind) tokens))

-- the layer of this name in a context, unless its full name has too many parts
abbrev pub layer_within : Context → LayerName → Option Context
layer_within context name =
    if nat_le (length (context.layer ++ name)) part_limit then Some (record { layer = context.layer ++ name }) else None

-- the layers that an `@layer` without a block declares: one name or more
abbrev pub layers_declared : Context → List Token → Option (List Context)
layers_declared context prelude = do
  names ← names_in prelude
  every (map (layer_within context) names)

abbrev pub is_anonymous : List Token → Bool
is_anonymous prelude = is_nil (without_white prelude)

-- the layer of an `@layer` with a block: one name, or none; so many anonymous layers come before it in the text
abbrev pub block_layer : SheetEdition → ℕ → Context → List Token → Option Context
block_layer edition place context prelude =
    if is_anonymous prelude then layer_within context (anonymous edition.sheet edition.edition place ∷ [])
    else (do
      name ← name_in (trimmed prelude)
      layer_within context name)
