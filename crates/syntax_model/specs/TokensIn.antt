-- The tokens of a preprocessed text, as a function that computes (css-syntax-3, section 4.3). That a text reads as
-- these and no others is a law.
use Rattle.std.specs.Prelude.{ℕ, zero, suc, ◌+◌, List, [], ◌∷◌, ◌++◌, length, drop}
use Rattle.base_model.specs.Text.{Characters}
use Rattle.syntax_model.specs.Token.{Token}
use Rattle.syntax_model.specs.Pieces.{production_at, production_len, production_tokens}

-- So many pieces at most, of a text that begins at an offset: the first one, and then the rest.
abbrev pub tokens_from : ℕ → ℕ → Characters → List Token
tokens_from zero start text = []
tokens_from (suc most) start [] = []
tokens_from (suc most) start (c ∷ cs) =
    let production = production_at (c ∷ cs) in
    let taken = production_len production c cs in
    production_tokens production start c cs ++ tokens_from most (start + taken) (drop taken (c ∷ cs))

-- each piece has a character at least
unfoldable pub tokens_in : Characters → List Token
tokens_in text = tokens_from (length text) 0 text
