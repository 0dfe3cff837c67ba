-- What readers of tokens ask of a token's kind, and whitespace at the ends of token lists.
use Rattle.std.specs.Prelude.{ℕ, ◌==◌, List, [], ◌∷◌, reverse, Bool, true, false, ◌||◌, if◌then◌else◌}
use Rattle.syntax_model.specs.Token.{Token, TokenKind, ident, function, at_keyword, hash, delim, whitespace, cdo, cdc}
use Rattle.syntax_model.specs.Token.{colon}
use Rattle.syntax_model.specs.Token.{semicolon, comma, open_square, close_round, open_curly, close_curly}

abbrev pub is_white : TokenKind → Bool
is_white whitespace = true
is_white kind = false

abbrev pub is_ident : TokenKind → Bool
is_ident ident = true
is_ident kind = false

abbrev pub is_function : TokenKind → Bool
is_function function = true
is_function kind = false

abbrev pub is_at_keyword : TokenKind → Bool
is_at_keyword at_keyword = true
is_at_keyword kind = false

abbrev pub is_hash : TokenKind → Bool
is_hash (hash is_id) = true
is_hash kind = false

-- a hash that is an identifier
abbrev pub is_id_hash : TokenKind → Bool
is_id_hash (hash is_id) = is_id
is_id_hash kind = false

-- the kind is that of this character alone
abbrev pub is_delim : ℕ → TokenKind → Bool
is_delim c (delim d) = d == c
is_delim c kind = false

abbrev pub is_cdo : TokenKind → Bool
is_cdo cdo = true
is_cdo kind = false

abbrev pub is_cdc : TokenKind → Bool
is_cdc cdc = true
is_cdc kind = false

abbrev pub is_comma : TokenKind → Bool
is_comma comma = true
is_comma kind = false

abbrev pub is_colon : TokenKind → Bool
is_colon colon = true
is_colon kind = false

abbrev pub is_semicolon : TokenKind → Bool
is_semicolon semicolon = true
is_semicolon kind = false

abbrev pub is_open_square : TokenKind → Bool
is_open_square open_square = true
is_open_square kind = false

abbrev pub is_close_round : TokenKind → Bool
is_close_round close_round = true
is_close_round kind = false

abbrev pub is_open_curly : TokenKind → Bool
is_open_curly open_curly = true
is_open_curly kind = false

abbrev pub is_close_curly : TokenKind → Bool
is_close_curly close_curly = true
is_close_curly kind = false

-- skipped between declarations
abbrev pub is_between : TokenKind → Bool
is_between kind = is_white kind || is_semicolon kind

abbrev pub begins_with : (TokenKind → Bool) → List Token → Bool
begins_with p [] = false
begins_with p (token ∷ tokens) = p token.kind

-- without whitespace at the beginning
abbrev pub without_white : List Token → List Token
without_white [] = []
without_white (token ∷ tokens) = if is_white token.kind then without_white tokens else token ∷ tokens

-- without whitespace at both ends
abbrev pub trimmed : List Token → List Token
trimmed tokens = reverse (without_white (reverse (without_white tokens)))
