-- Where the tokens of a text are in it.
use Rattle.std.specs.Prelude.{◌≡◌, ℕ, ◌-◌, ◌<◌, ◌≤◌, List, [], ◌∷◌, Some, length, take, drop}
use Rattle.base_model.specs.Text.{Characters}
use Rattle.syntax_model.specs.Token.{Span, Token, said}
use Rattle.syntax_model.specs.Pieces.{production_at}
use Rattle.syntax_model.specs.Reading.{IsToken}

-- The token is at a span of the text: the characters there, before what follows them, are a token of the production
-- that fits where they begin, and they say what this one says.
pub record IsAt (text : Characters) (span : Span) (token : Token) : Type 0 where
  pub spanned : token.span ≡ Some span
  pub some : span.start < span.end
  pub inside : span.end ≤ length text
  pub first : ℕ
  pub others : Characters
  pub here : drop span.start text ≡ first ∷ others
  pub piece :
      IsToken (production_at (first ∷ others)) (said token) (take (span.end - span.start) (first ∷ others))
      (drop span.end text)

-- From an offset on, each token is at a span of the text, after the one before it; comments may lie between them.
abbrev pub StandInOrder : ℕ → Characters → List Token → Type 0
StandInOrder from text [] = Unit {0}
StandInOrder from text (token ∷ tokens) =
    (span : Span) × (from ≤ span.start) × IsAt text span token × StandInOrder span.end text tokens
