-- Brackets, what is in them, and what is outside them (css-syntax-3, section 5.4).
use Rattle.std.specs.Prelude.{ℕ, ◌+◌, nat_le, List, [], ◌∷◌, ◌++◌, length, take, drop, Bool, true, false, ◌&&◌}
use Rattle.std.specs.Prelude.{if◌then◌else◌, Option, Some, None}
use Rattle.base_model.specs.Lists.{is_nil}
use Rattle.syntax_model.specs.Token.{Token, TokenKind, function, open_square, close_square, open_round, close_round}
use Rattle.syntax_model.specs.Token.{open_curly, close_curly}

pub data Bracket : Type 0 where
  square : Bracket
  round : Bracket
  curly : Bracket

-- a function opens a round bracket too
abbrev pub opened_by : TokenKind → Option Bracket
opened_by open_square = Some square
opened_by open_round = Some round
opened_by function = Some round
opened_by open_curly = Some curly
opened_by kind = None

abbrev pub closed_by : TokenKind → Option Bracket
closed_by close_square = Some square
closed_by close_round = Some round
closed_by close_curly = Some curly
closed_by kind = None

abbrev pub same_bracket : Bracket → Bracket → Bool
same_bracket square square = true
same_bracket round round = true
same_bracket curly curly = true
same_bracket a b = false

-- A closer closes the innermost open bracket if it is of its kind. Any other closer is an ordinary token.
abbrev pub without_closed : List Bracket → Option Bracket → List Bracket
without_closed pending None = pending
without_closed [] (Some bracket) = []
without_closed (innermost ∷ pending) (Some bracket) =
    if same_bracket innermost bracket then pending else innermost ∷ pending

abbrev pub with_opened : Option Bracket → List Bracket → List Bracket
with_opened None pending = pending
with_opened (Some bracket) pending = bracket ∷ pending

-- the brackets that are open after a token, the innermost first
abbrev pub open_past : List Bracket → Token → List Bracket
open_past pending token = with_opened (opened_by token.kind) (without_closed pending (closed_by token.kind))

-- the same after a list of tokens
abbrev pub open_after : List Bracket → List Token → List Bracket
open_after pending [] = pending
open_after pending (token ∷ tokens) = open_after (open_past pending token) tokens

-- how many tokens come before the one that closes the last of these brackets: all of them, if none does
abbrev pub inside_len : List Bracket → List Token → ℕ
inside_len pending [] = 0
inside_len pending (token ∷ tokens) =
    if is_nil (open_past pending token) then 0 else 1 + inside_len (open_past pending token) tokens

-- what stands in a bracket that was just opened
abbrev pub inside : Bracket → List Token → List Token
inside bracket tokens = take (inside_len (bracket ∷ []) tokens) tokens

-- and what comes after its closer
abbrev pub past : Bracket → List Token → List Token
past bracket tokens = drop (inside_len (bracket ∷ []) tokens + 1) tokens

abbrev pub closer_kind : Bracket → TokenKind
closer_kind square = close_square
closer_kind round = close_round
closer_kind curly = close_curly

-- the closer that the end of input adds; it has no span
abbrev pub closer : Bracket → Token
closer bracket = record {
  kind = closer_kind bracket;
  name = [];
  spelling = [];
  span = None;
}

-- the closers of what is open
abbrev pub closers : List Bracket → List Token
closers [] = []
closers (bracket ∷ pending) = closer bracket ∷ closers pending

-- what is left open, closed: the end of input closes it
abbrev pub closed : List Token → List Token
closed tokens = tokens ++ closers (open_after [] tokens)

-- how deep brackets may be nested
abbrev pub nesting_limit : ℕ
nesting_limit = 64

-- whether no more brackets than that are open anywhere in the tokens
abbrev pub is_shallow_within : List Bracket → List Token → Bool
is_shallow_within pending [] = true
is_shallow_within pending (token ∷ tokens) =
    nat_le (length (open_past pending token)) nesting_limit && is_shallow_within (open_past pending token) tokens

abbrev pub is_shallow : List Token → Bool
is_shallow tokens = is_shallow_within [] tokens
