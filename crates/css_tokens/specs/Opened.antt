-- The steps that are left of a value, by what is open.
use Rattle.std.specs.Prelude.{◌≡◌, List, [], ◌∷◌, map, Bool, true, false, ◌&&◌, if◌then◌else◌}
use Rattle.std.specs.Prelude.{Option, Some, None, option_map}
use Rattle.base_model.specs.Lists.{is_nil}
use Rattle.base_model.specs.Text.{Characters}
use Rattle.syntax_model.specs.Token.{Said, TokenKind}
use Rattle.syntax_model.specs.TokenKinds.{is_white, is_comma, is_close_round}
use Rattle.syntax_model.specs.Brackets.{Bracket, opened_by, closed_by, same_bracket}
use Rattle.custom_model.specs.Parts.{is_name, is_unfit, is_var}
use Rattle.custom_model.specs.Steps.{Step, token, alone, begins, ends}

-- what is open, the innermost first: a bracket, or the fallback of a `var()`, for which nothing stands
abbrev pub Opened : Type 0
Opened = List (Option Bracket)

-- whether the innermost is a fallback
abbrev pub is_in_fallback : Opened → Bool
is_in_fallback [] = false
is_in_fallback (None ∷ openers) = true
is_in_fallback (Some bracket ∷ openers) = false

-- the brackets that are open in the innermost fallback, or else in the value
abbrev pub brackets_in : Opened → List Bracket
brackets_in [] = []
brackets_in (None ∷ openers) = []
brackets_in (Some bracket ∷ openers) = bracket ∷ brackets_in openers

-- no fallback is open, but brackets alone
abbrev pub AreBrackets : Opened → Type 0
AreBrackets openers = openers ≡ map Some (brackets_in openers)

abbrev pub with_bracket : Option Bracket → Opened → Opened
with_bracket None openers = openers
with_bracket (Some bracket) openers = Some bracket ∷ openers

abbrev pub without_bracket : Opened → Option Bracket → Opened
without_bracket openers None = openers
without_bracket [] (Some bracket) = []
without_bracket (None ∷ openers) (Some bracket) = None ∷ openers
without_bracket (Some innermost ∷ openers) (Some bracket) =
    if same_bracket innermost bracket then openers else Some innermost ∷ openers

-- what is open after a token that stands for itself
abbrev pub beyond : Opened → TokenKind → Opened
beyond openers kind = with_bracket (opened_by kind) (without_bracket openers (closed_by kind))

-- without the fallback that ends
abbrev pub outside : Opened → Opened
outside [] = []
outside (innermost ∷ openers) = openers

-- the steps of a value one by one, up to its end, or to where it is bad
pub data Read : Type 0 where
  finished : Read
  invalid : Read
  first_then : Step → Read → Read

-- all of them, where the value is valid
abbrev pub whole : Read → Option (List Step)
whole finished = Some []
whole invalid = None
whole (first_then step read) = option_map (λ rest. step ∷ rest) (whole read)

-- those up to where it is bad; all, where it is valid
abbrev pub front : Read → List Step
front finished = []
front invalid = []
front (first_then step read) = step ∷ front read

-- where in a value tokens are read on: anywhere, after `var(`, and after the name that follows it
pub data Place : Type 0 where
  anywhere : Place
  in_var : Place
  after_name : Characters → Place

-- the steps that the tokens make from there on
unfoldable pub steps_from : Place → Opened → List Said → Read
steps_from anywhere openers [] = if is_nil openers then finished else invalid
steps_from anywhere openers (said ∷ tokens) =
    if is_in_fallback openers && is_close_round said.kind
    then first_then ends (steps_from anywhere (outside openers) tokens)
    else if is_unfit (brackets_in openers) said.kind then invalid
    else if is_var said then steps_from in_var openers tokens
    else first_then (token said) (steps_from anywhere (beyond openers said.kind) tokens)
steps_from in_var openers [] = invalid
steps_from in_var openers (said ∷ tokens) =
    if is_white said.kind then steps_from in_var openers tokens
    else if is_name said then steps_from (after_name said.name) openers tokens
    else invalid
steps_from (after_name name) openers [] = invalid
steps_from (after_name name) openers (said ∷ tokens) =
    if is_white said.kind then steps_from (after_name name) openers tokens
    else if is_close_round said.kind then first_then (alone name) (steps_from anywhere openers tokens)
    else if is_comma said.kind then first_then (begins name) (steps_from anywhere (None ∷ openers) tokens)
    else invalid

-- the steps of a value up to where it is bad
abbrev pub front_in : List Said → List Step
front_in tokens = front (steps_from anywhere [] tokens)
