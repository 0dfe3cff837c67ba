-- Cutting token lists at tokens outside brackets (css-syntax-3, sections 5.4.1 and 5.4.6).
use Rattle.std.specs.Prelude.{ℕ, ◌+◌, List, [], ◌∷◌, take, drop, Bool, ◌&&◌, if◌then◌else◌}
use Rattle.base_model.specs.Lists.{is_nil, onto_first}
use Rattle.syntax_model.specs.Token.{Token, TokenKind}
use Rattle.syntax_model.specs.Brackets.{Bracket, open_past}

-- how many tokens come before the first that passes outside brackets
abbrev pub length_before : (TokenKind → Bool) → List Bracket → List Token → ℕ
length_before p pending [] = 0
length_before p pending (token ∷ tokens) =
    if is_nil pending && p token.kind then 0 else 1 + length_before p (open_past pending token) tokens

-- the tokens before the first that passes outside brackets: all of them, if there is none
abbrev pub up_to : (TokenKind → Bool) → List Token → List Token
up_to p tokens = take (length_before p [] tokens) tokens

-- and the rest, from that one on
abbrev pub from_first : (TokenKind → Bool) → List Token → List Token
from_first p tokens = drop (length_before p [] tokens) tokens

-- the parts between the tokens that pass outside brackets
abbrev pub parts_within : (TokenKind → Bool) → List Bracket → List Token → List (List Token)
parts_within p pending [] = [] ∷ []
parts_within p pending (token ∷ tokens) =
    if is_nil pending && p token.kind then [] ∷ parts_within p [] tokens
    else onto_first token (parts_within p (open_past pending token) tokens)

abbrev pub parts_between : (TokenKind → Bool) → List Token → List (List Token)
parts_between p tokens = parts_within p [] tokens
