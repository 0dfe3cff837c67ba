-- What a cursor takes.
use Rattle.std.specs.Prelude.{◌≡◌, List, ◌∷◌, Bool, true, false}
use Rattle.base_model.specs.Text.{Characters}
use Rattle.syntax_model.specs.Token.{Token, TokenKind}
use Rattle.syntax_model.specs.TokenKinds.{begins_with}

-- the first token passes, and what is left comes after it
pub record IsTaken (p : TokenKind → Bool) (old new : List Token) : Type 0 where
  pub token : Token
  pub first : old ≡ token ∷ new
  pub passes : p token.kind ≡ true

-- and that token's name
pub record IsNameTaken (p : TokenKind → Bool) (name : Characters) (old new : List Token) : Type 0 where
  pub token : Token
  pub first : old ≡ token ∷ new
  pub passes : p token.kind ≡ true
  pub named : name ≡ token.name

-- no first token passes, and nothing is taken
pub record IsKept (p : TokenKind → Bool) (old new : List Token) : Type 0 where
  pub same : new ≡ old
  pub fails : begins_with p old ≡ false
