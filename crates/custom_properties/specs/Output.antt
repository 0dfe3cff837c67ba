-- The output of an expansion: what is put of it so far.
use Rattle.std.specs.Prelude.{List, [], ◌∷◌, ◌++◌, length, nat_lt, Bool, true, false, if◌then◌else◌}
use Rattle.std.specs.Prelude.{Option, Some, None, option_map}
use Rattle.base_model.specs.Options.{◌>>=◌}
use Rattle.syntax_model.specs.Token.{Token, Said}
use Rattle.syntax_model.specs.TokenKinds.{is_white}
use Rattle.custom_model.specs.Value.{unplaced, white_space}
use Rattle.custom_model.specs.Expand.{token_limit}

-- The tokens, whether whitespace is to stand before the next one, and whether one is put of the innermost fallback that
-- is put, or else of the whole.
pub record ExpansionOutput : Type 0 where
  pub tokens : List Token
  pub is_spaced : Bool
  pub has_begun : Bool

abbrev pub output_at : List Token → Bool → Bool → ExpansionOutput
output_at tokens is_spaced has_begun = record { tokens = tokens; is_spaced = is_spaced; has_begun = has_begun }

-- before the first token, and after one
abbrev pub first : ExpansionOutput
first = output_at [] false false

abbrev pub beyond : List Token → ExpansionOutput
beyond tokens = output_at tokens false true

-- an answer, where a test holds
abbrev pub if_so : {A : Type 0} → Bool → A → Option A
if_so test answer = if test then Some answer else None

-- one token more at the end, where there is room
abbrev pub pushed : Token → List Token → Option (List Token)
pushed token tokens = if nat_lt (length tokens) token_limit then Some (tokens ++ (token ∷ [])) else None

-- after the whitespace that is to stand before a token
abbrev pub separated : Bool → List Token → Option (List Token)
separated is_spaced tokens = if is_spaced then pushed (unplaced white_space) tokens else Some tokens

-- with a token that is no whitespace
abbrev pub with_put : Said → ExpansionOutput → Option (List Token)
with_put token output = do
  before ← separated output.is_spaced output.tokens
  pushed (unplaced token) before

abbrev pub put : Said → ExpansionOutput → Option ExpansionOutput
put token output = option_map beyond (with_put token output)

-- whitespace counts once something stands before it
abbrev pub noted_white : ExpansionOutput → ExpansionOutput
noted_white output = if output.has_begun then output_at output.tokens true true else output

abbrev pub output_placed : Said → ExpansionOutput → Option ExpansionOutput
output_placed token output = if is_white token.kind then Some (noted_white output) else put token output

abbrev pub output_placed_all : List Said → ExpansionOutput → Option ExpansionOutput
output_placed_all [] output = Some output
output_placed_all (token ∷ tokens) output = do
  next ← output_placed token output
  output_placed_all tokens next

-- where a fallback begins that is put, and where it ends
abbrev pub begun : ExpansionOutput → ExpansionOutput
begun output = output_at output.tokens output.is_spaced false

abbrev pub ended : Bool → ExpansionOutput → ExpansionOutput
ended had_begun output =
    if output.has_begun then beyond output.tokens else output_at output.tokens output.is_spaced had_begun
