-- What a value is made of (css-variables-1, section 3): tokens, and `var()`s. One reading says which values are valid,
-- which names a value refers to, and what is put in the place of these.
use Rattle.std.specs.Prelude.{ℕ, zero, suc, List, [], ◌∷◌, ◌++◌, map, length, Bool, true, false, not, ◌&&◌, ◌||◌, if◌then◌else◌}
use Rattle.std.specs.Prelude.{Option, Some, None, option_map, codes}
use Rattle.std.specs.Option.{option_map_or}
use Rattle.base_model.specs.Lists.{is_nil}
use Rattle.base_model.specs.Options.{◌>>=◌}
use Rattle.base_model.specs.Text.{Characters, is_word}
use Rattle.syntax_model.specs.Signs.{exclamation_mark}
use Rattle.syntax_model.specs.Token.{Token, Said, TokenKind, said}
use Rattle.syntax_model.specs.TokenKinds.{is_white, is_ident, is_function, is_comma, is_semicolon, is_close_round}
use Rattle.syntax_model.specs.TokenKinds.{is_delim}
use Rattle.syntax_model.specs.Brackets.{Bracket, opened_by, closed_by, same_bracket, with_opened, without_closed}
use Rattle.syntax_model.specs.Written.{is_broken}
use Rattle.custom_model.specs.Value.{CustomValue, is_custom_name, normal}

-- The parts of a value, or of a fallback, in order.
pub data Parts : Type 0 where
  done : Parts
  -- a token that stands for itself, and what follows it
  plain : Said → Parts → Parts
  -- `var()` with this name, and what follows it
  reference : Characters → Parts → Parts
  -- `var()` with a fallback too
  with_fallback : Characters → Parts → Parts → Parts

-- what was read, and the tokens that are left
abbrev pub Reading : Type 0
Reading = Option (Parts × List Said)

abbrev pub after : (Parts → Parts) → Reading → Reading
after before reading = option_map (λ r. (before r.0, r.1)) reading

abbrev pub without_white : List Said → List Said
without_white [] = []
without_white (token ∷ tokens) = if is_white token.kind then without_white tokens else token ∷ tokens

-- `var(`, ignoring ASCII case
abbrev pub is_var : Said → Bool
is_var token = is_function token.kind && is_word (codes "var") token.name

abbrev pub is_name : Said → Bool
is_name token = is_ident token.kind && is_custom_name token.name

-- whether a closer closes nothing here
abbrev pub is_unmatched : List Bracket → TokenKind → Bool
is_unmatched pending kind = option_map_or (λ bracket. closes_none bracket pending) (closed_by kind) false where
  closes_none : Bracket → List Bracket → Bool
  closes_none bracket [] = true
  closes_none bracket (innermost ∷ outer) = not (same_bracket innermost bracket)

-- What makes a value invalid (section 2): a bad string, a bad url, a `\` alone, a closer that closes nothing, and
-- outside brackets `;` and `!`.
abbrev pub is_unfit : List Bracket → TokenKind → Bool
is_unfit pending kind =
    is_broken kind || (is_unmatched pending kind
    || (is_nil pending && (is_semicolon kind || is_delim exclamation_mark kind)))

-- the brackets that are open after a token
abbrev pub open_beyond : List Bracket → TokenKind → List Bracket
open_beyond pending kind = with_opened (opened_by kind) (without_closed pending (closed_by kind))

-- The parts from here on, up to the end of the value, or in a fallback up to the `)` of its `var()`. The brackets that
-- were opened since its beginning are pending. `again` reads on.
abbrev pub Reader : Type 0
Reader = Bool → List Bracket → List Said → Reading

-- after the name of a `var()`: its `)`, or a comma and a fallback
abbrev pub named_by : Reader → Bool → List Bracket → Characters → List Said → Reading
named_by again within pending name [] = None
named_by again within pending name (token ∷ tokens) =
    if is_close_round token.kind then after (reference name) (again within pending tokens)
    else if is_comma token.kind then (do
      fallback ← again true [] tokens
      after (with_fallback name fallback.0) (again within pending fallback.1))
    else None

-- after `var(`: a name
abbrev pub var_by : Reader → Bool → List Bracket → List Said → Reading
var_by again within pending [] = None
var_by again within pending (token ∷ tokens) =
    if is_name token then named_by again within pending token.name (without_white tokens) else None

abbrev pub parts_by : Reader → Bool → List Bracket → List Said → Reading
parts_by again within pending [] = if within || not (is_nil pending) then None else Some (done, [])
parts_by again within pending (token ∷ tokens) =
    if within && (is_nil pending && is_close_round token.kind) then Some (done, tokens)
    else if is_unfit pending token.kind then None
    else if is_var token then var_by again within pending (without_white tokens)
    else after (plain token) (again within (open_beyond pending token.kind) tokens)

-- in so many steps at most
abbrev pub parts_within : ℕ → Reader
parts_within zero within pending tokens = None
parts_within (suc most) within pending tokens = parts_by (parts_within most) within pending tokens

-- The parts of a value. Each step takes a token, and the last finds the end.
unfoldable pub parts : CustomValue → Option Parts
parts tokens = option_map (λ r. r.0) (parts_within (suc (length tokens)) false [] tokens)

-- the names that a value refers to, in fallbacks too
abbrev pub references : Parts → List Characters
references done = []
references (plain token rest) = references rest
references (reference name rest) = name ∷ references rest
references (with_fallback name fallback rest) = name ∷ references fallback ++ references rest

abbrev pub references_in : CustomValue → List Characters
references_in tokens = option_map_or references (parts tokens) []

-- a value that is valid, and whether it refers to some name
abbrev pub is_valid : CustomValue → Bool
is_valid tokens = option_map_or (λ read. true) (parts tokens) false

abbrev pub refers : CustomValue → Bool
refers tokens = not (is_nil (references_in tokens))

-- what is kept of the tokens of a value, where they are valid
abbrev pub kept_where_valid : CustomValue → Option CustomValue
kept_where_valid value = if is_valid value then Some value else None

abbrev pub custom_value_in : List Token → Option CustomValue
custom_value_in tokens = kept_where_valid (normal (map said tokens))

-- and of tokens that refer to custom properties
abbrev pub referring_value_in : List Token → Option CustomValue
referring_value_in tokens = do
  value ← custom_value_in tokens
  if refers value then Some value else None
