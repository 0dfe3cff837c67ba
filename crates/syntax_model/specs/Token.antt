-- Tokens (css-syntax-3, section 4).
use Rattle.std.specs.Prelude.{ℕ, [], Bool, Option}
use Rattle.base_model.specs.Text.{Characters}

pub data TokenKind : Type 0 where
  ident : TokenKind
  function : TokenKind
  at_keyword : TokenKind
  -- whether the name is an identifier (type id), else unrestricted
  hash : Bool → TokenKind
  string : TokenKind
  bad_string : TokenKind
  url : TokenKind
  bad_url : TokenKind
  delim : ℕ → TokenKind
  -- whether it is an integer
  number : Bool → TokenKind
  percentage : TokenKind
  dimension : Bool → TokenKind
  whitespace : TokenKind
  cdo : TokenKind
  cdc : TokenKind
  colon : TokenKind
  semicolon : TokenKind
  comma : TokenKind
  open_square : TokenKind
  close_square : TokenKind
  open_round : TokenKind
  close_round : TokenKind
  open_curly : TokenKind
  close_curly : TokenKind

-- where a token's text is, in characters of the preprocessed text
pub record Span : Type 0 where
  pub start : ℕ
  pub end : ℕ

-- A token, independent of its source text. The name is a name, a unit, or a string's or url's text, with escapes read,
-- and empty where there is none. The spelling is that of the number in a number, percentage or dimension, and empty in
-- any other token. A closer that the end of input adds has no span.
pub record Token : Type 0 where
  pub kind : TokenKind
  pub name : Characters
  pub spelling : Characters
  pub span : Option Span

-- What a token says, wherever it is.
pub record Said : Type 0 where
  pub kind : TokenKind
  pub name : Characters
  pub spelling : Characters

abbrev pub said : Token → Said
said token = record { kind = token.kind; name = token.name; spelling = token.spelling }

-- what a token without a name says, one with a name, and one with a number and maybe a name
abbrev pub bare : TokenKind → Said
bare kind = record { kind = kind; name = []; spelling = [] }

abbrev pub with_name : TokenKind → Characters → Said
with_name kind name = record { kind = kind; name = name; spelling = [] }

abbrev pub with_number : TokenKind → Characters → Characters → Said
with_number kind spelling name = record { kind = kind; name = name; spelling = spelling }
