-- What a reader of tokens has before it.
use Rattle.std.specs.Prelude.{◌≡◌, ℕ, List, [], ◌∷◌, ◌++◌, length, drop}
use Rattle.base_model.specs.Text.{Characters}
use Rattle.syntax_model.specs.Token.{Token, TokenKind}
use Rattle.syntax_model.specs.TokensIn.{tokens_from}

-- the tokens of a text from a place on, at which a piece begins
abbrev pub tokens_left : ℕ → Characters → List Token
tokens_left place text = let rest = drop place text in tokens_from (length rest) place rest

-- a token of this kind comes first, and the others come after it
pub record IsPassed (kind : TokenKind) (old new : List Token) : Type 0 where
  pub token : Token
  pub first : old ≡ token ∷ new
  pub same_kind : kind ≡ token.kind

-- a token of this kind comes first, and is moved to the end of a list
pub record IsAppended (kind : TokenKind) (old new list after : List Token) : Type 0 where
  pub token : Token
  pub first : old ≡ token ∷ new
  pub last : after ≡ list ++ token ∷ []
  pub same_kind : kind ≡ token.kind
