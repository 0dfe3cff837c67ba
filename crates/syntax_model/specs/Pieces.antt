-- The pieces of a preprocessed text: which production of the grammar fits where one begins, and what it is
-- (css-syntax-3, section 4.3).
use Rattle.std.specs.Prelude.{ℕ, ◌+◌, ◌==◌, List, [], ◌∷◌, take, drop, codes}
use Rattle.std.specs.Prelude.{Bool, false, not, ◌&&◌, ◌||◌, if◌then◌else◌, Some}
use Rattle.std.specs.List.{prefix_len}
use Rattle.base_model.specs.Ascii.{line_feed, hyphen, number_sign, asterisk}
use Rattle.base_model.specs.Ascii.{comma_sign, colon_sign, semicolon_sign, left_parenthesis, right_parenthesis}
use Rattle.base_model.specs.Ascii.{left_bracket, right_bracket, left_brace, right_brace}
use Rattle.base_model.specs.Lists.{is_nil}
use Rattle.base_model.specs.Text.{Characters, is_word}
use Rattle.syntax_model.specs.Signs.{exclamation_mark, percent_sign, solidus, less_than_sign, greater_than_sign}
use Rattle.syntax_model.specs.Signs.{commercial_at}
use Rattle.syntax_model.specs.Letters.{begins, is_blank, is_name_char, is_name_start, is_quote}
use Rattle.syntax_model.specs.TextUnits.{starts_escape, one_if, name_unit, string_unit, url_unit, remnant_unit}
use Rattle.syntax_model.specs.TextUnits.{comment_unit, len_of, said_of}
use Rattle.syntax_model.specs.Numbers.{starts_number, number_len, is_integer}
use Rattle.syntax_model.specs.Token.{Token, TokenKind, ident, function, at_keyword, hash, string, bad_string, url}
use Rattle.syntax_model.specs.Token.{bad_url, delim}
use Rattle.syntax_model.specs.Token.{number, percentage, dimension, whitespace, cdo, cdc, colon, semicolon, comma}
use Rattle.syntax_model.specs.Token.{open_square, close_square, open_round, close_round, open_curly, close_curly}

-- The productions of the grammar, in the order in which they are tried.
pub data Production : Type 0 where
  comment_production : Production
  white_production : Production
  string_production : Production
  hash_production : Production
  number_production : Production
  cdc_production : Production
  cdo_production : Production
  at_keyword_production : Production
  -- an identifier, a function or a url
  ident_production : Production
  -- one character
  mark_production : Production

-- `/` and `*`
abbrev pub starts_comment : Characters → Bool
starts_comment [] = false
starts_comment (c ∷ cs) = (c == solidus) && begins (λ d. d == asterisk) cs

-- a character of a name, or a valid escape
abbrev pub starts_name : Characters → Bool
starts_name text = begins is_name_char text || starts_escape text

-- An identifier starts at a name-start character, at a valid escape, or at `-` before one of these or another `-`
-- (section 4.3.9).
abbrev pub starts_ident : Characters → Bool
starts_ident [] = false
starts_ident (c ∷ cs) =
    if c == hyphen then begins (λ d. is_name_start d || (d == hyphen)) cs || starts_escape cs
    else is_name_start c || starts_escape (c ∷ cs)

-- `-->`
abbrev pub starts_cdc : Characters → Bool
starts_cdc (a ∷ b ∷ c ∷ cs) = (a == hyphen) && ((b == hyphen) && (c == greater_than_sign))
starts_cdc cs = false

-- `<!--`
abbrev pub starts_cdo : Characters → Bool
starts_cdo (a ∷ b ∷ c ∷ d ∷ cs) =
    (a == less_than_sign) && ((b == exclamation_mark) && ((c == hyphen) && (d == hyphen)))
starts_cdo cs = false

-- The production of the piece that a text begins with: the first that fits. Four characters decide.
abbrev pub production_at : Characters → Production
production_at [] = mark_production
production_at (c ∷ cs) =
    if starts_comment (c ∷ cs) then comment_production
    else if is_blank c then white_production
    else if is_quote c then string_production
    else if (c == number_sign) && starts_name cs then hash_production
    else if starts_number (c ∷ cs) then number_production
    else if starts_cdc (c ∷ cs) then cdc_production
    else if starts_cdo (c ∷ cs) then cdo_production
    else if (c == commercial_at) && starts_ident cs then at_keyword_production
    else if starts_ident (c ∷ cs) then ident_production
    else mark_production

-- the token of one character
abbrev pub mark_kind : ℕ → TokenKind
mark_kind c =
    if c == comma_sign then comma
    else if c == colon_sign then colon
    else if c == semicolon_sign then semicolon
    else if c == left_parenthesis then open_round
    else if c == right_parenthesis then close_round
    else if c == left_bracket then open_square
    else if c == right_bracket then close_square
    else if c == left_brace then open_curly
    else if c == right_brace then close_curly
    else delim c

-- What a token says, and how many characters its text has.
pub record Piece : Type 0 where
  pub kind : TokenKind
  pub name : Characters
  pub spelling : Characters
  pub length : ℕ

abbrev pub plain : TokenKind → ℕ → Piece
plain kind length = record { kind = kind; name = []; spelling = []; length = length }

abbrev pub named : TokenKind → Characters → ℕ → Piece
named kind name length = record { kind = kind; name = name; spelling = []; length = length }

abbrev pub name_len : Characters → ℕ
name_len text = len_of name_unit text

-- the name that a text begins with, with escapes read
abbrev pub name_in : Characters → Characters
name_in text = said_of name_unit text

abbrev pub is_line_feed : ℕ → Bool
is_line_feed c = c == line_feed

abbrev pub is_closing : ℕ → Bool
is_closing c = c == right_parenthesis

-- After a quote: a string up to the same quote or the end of input; at a bare line feed it is bad, and the line feed is
-- not taken (section 4.3.5).
abbrev pub string_piece : ℕ → Characters → Piece
string_piece quote text =
    let taken = len_of (string_unit quote) text in
    let rest = drop taken text in
    if begins is_line_feed rest then plain bad_string (1 + taken)
    else named string (said_of (string_unit quote) text) (1 + taken + one_if (λ c. c == quote) rest)

-- After a number comes `%`, a unit or neither (section 4.3.3).
abbrev pub number_piece : Characters → Piece
number_piece text =
    let taken = number_len text in
    let rest = drop taken text in
    let spelling = take taken text in
    if begins (λ c. c == percent_sign) rest
    then record { kind = percentage; name = []; spelling = spelling; length = taken + 1 }
    else if starts_ident rest
    then record {
      kind = dimension (is_integer text);
      name = name_in rest;
      spelling = spelling;
      length = taken + name_len rest;
    }
    else record { kind = number (is_integer text); name = []; spelling = spelling; length = taken }

-- a quote, after optional whitespace
abbrev pub quote_follows : Characters → Bool
quote_follows text = begins is_quote (drop (prefix_len is_blank text) text)

-- After `url(`, of which so many characters are: whitespace around the text is no part of it. Where the text does not
-- end there, the url is bad, and ends at the next `)` that is not escaped (sections 4.3.6 and 4.3.14).
abbrev pub url_piece : ℕ → Characters → Piece
url_piece before text =
    let blank = prefix_len is_blank text in
    let body = drop blank text in
    let taken = len_of url_unit body in
    let after = drop taken body in
    let white = prefix_len is_blank after in
    let rest = drop white after in
    let read = before + blank + taken + white in
    if is_nil rest || begins is_closing rest then named url (said_of url_unit body) (read + one_if is_closing rest)
    else let bad = len_of remnant_unit rest in plain bad_url (read + bad + one_if is_closing (drop bad rest))

-- An identifier, a function or a url (section 4.3.4).
abbrev pub ident_piece : Characters → Piece
ident_piece text =
    let taken = name_len text in
    let name = name_in text in
    let rest = drop taken text in
    if not (begins (λ c. c == left_parenthesis) rest) then named ident name taken
    else if is_word (codes "url") name && not (quote_follows (drop 1 rest)) then url_piece (taken + 1) (drop 1 rest)
    else named function name (taken + 1)

-- the piece of a production that a text begins with, by its first character and the others
abbrev pub piece_of : Production → ℕ → Characters → Piece
piece_of white_production c cs = plain whitespace (prefix_len is_blank (c ∷ cs))
piece_of string_production c cs = string_piece c cs
piece_of hash_production c cs = named (hash (starts_ident cs)) (name_in cs) (1 + name_len cs)
piece_of number_production c cs = number_piece (c ∷ cs)
piece_of cdc_production c cs = plain cdc 3
piece_of cdo_production c cs = plain cdo 4
piece_of at_keyword_production c cs = named at_keyword (name_in cs) (1 + name_len cs)
piece_of ident_production c cs = ident_piece (c ∷ cs)
piece_of production c cs = plain (mark_kind c) 1

-- after `/*`: up to `*/` or the end of input (section 4.3.2)
abbrev pub comment_len : Characters → ℕ
comment_len text = let taken = len_of comment_unit text in taken + (if is_nil (drop taken text) then 0 else 2)

-- how many characters the piece has
abbrev pub production_len : Production → ℕ → Characters → ℕ
production_len comment_production c cs = 2 + comment_len (drop 1 cs)
production_len production c cs = (piece_of production c cs).length

-- the token of a piece whose text begins at an offset
abbrev pub token_of : ℕ → Piece → Token
token_of start piece = record {
  kind = piece.kind;
  name = piece.name;
  spelling = piece.spelling;
  span = Some (record { start = start; end = start + piece.length });
}

-- a comment is no token
abbrev pub production_tokens : Production → ℕ → ℕ → Characters → List Token
production_tokens comment_production start c cs = []
production_tokens production start c cs = token_of start (piece_of production c cs) ∷ []
