-- What the grammar of selectors asks of tokens: their kinds, and words.
use Rattle.std.specs.Prelude.{List, [], ◌∷◌, Bool, true, false, if◌then◌else◌, Option, Some, None}
use Rattle.base_model.specs.Text.{Characters, is_word}
use Rattle.syntax_model.specs.Token.{Token, TokenKind, ident, string, number, dimension}
use Rattle.syntax_model.specs.TokenKinds.{is_ident}

-- an identifier or a string
abbrev pub is_text : TokenKind → Bool
is_text ident = true
is_text string = true
is_text kind = false

abbrev pub is_integer_number : TokenKind → Bool
is_integer_number (number is_integer) = is_integer
is_integer_number kind = false

abbrev pub is_integer_dimension : TokenKind → Bool
is_integer_dimension (dimension is_integer) = is_integer
is_integer_dimension kind = false

-- an identifier's name, and what comes after it
abbrev pub ident_at : List Token → Option (Characters × List Token)
ident_at [] = None
ident_at (first ∷ rest) = if is_ident first.kind then Some (first.name, rest) else None

-- what stands beside a word, ignoring ASCII case
abbrev pub named : {X : Type 0} → Characters → List (Characters × X) → Option X
named name [] = None
named name (row ∷ rows) = if is_word row.0 name then Some row.1 else named name rows
