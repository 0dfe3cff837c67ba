-- One step of the reader: a text whose first piece is known reads as that token, and then as what is after it.
use Rattle.std.proofs.Common.{◌≡◌, ℕ, zero, suc, ◌+◌, ◌<◌, Bool, true, false, List, [], ◌∷◌, ◌++◌, length, drop, map, refl, sym, ap, ◌∙◌, arith}
use Rattle.std.proofs.lemmas.List.{drop_at, length-append}
use Rattle.std.specs.List.{list_all}
use Rattle.std.proofs.lemmas.Bool.{and_from, false≢true}
use Rattle.std.proofs.lemmas.List.Folds.{list_all-append}
use Rattle.base_model.specs.Text.{Characters}
use Rattle.syntax_model.specs.Token.{Said, Token, said, whitespace}
use Rattle.syntax_model.specs.TextUnits.{Run, TextUnit, len_of, said_of}
use Rattle.syntax_model.specs.Pieces.{Piece, Production, comment_production, ident_production, number_production, ident_piece, number_piece, piece_of, plain, production_at, production_len}
use Rattle.syntax_model.specs.Pieces.{production_tokens, token_of}
use Rattle.syntax_model.specs.TokensIn.{tokens_from, tokens_in}
use Rattle.syntax_model.proofs.NameLemmas.{ReadsRun}

-- The text reads as a token that says this, and then as the rest does.
pub record ReadsOne (text : Characters) (token : Said) (rest : Characters) : Type 0 where
  pub some : 0 < length text
  pub reads : (n start : ℕ) → map said (tokens_from (suc n) start (text ++ rest)) ≡ token ∷ map said (tokens_from n (start + length text) rest)

-- how much of a text a run takes, what it says, and what is after it
pub record IsRun (unit : Characters → TextUnit) (text name rest : Characters) : Type 0 where
  pub size : len_of unit (text ++ rest) ≡ length text
  pub same : said_of unit (text ++ rest) ≡ name
  pub left : drop (length text) (text ++ rest) ≡ rest

pub run_is : {unit : Characters → TextUnit} (text name rest : Characters) → ReadsRun unit text name rest → IsRun unit text name rest
run_is text name rest reads = record {
  size = ap (λ (r : Run). r.taken) reads;
  same = ap (λ (r : Run). r.said) reads;
  left = drop_at text rest (length text) refl;
}

-- a comment is no token
abbrev pub is_comment : Production → Bool
is_comment comment_production = true
is_comment production = false

-- the piece of a production that a text begins with
abbrev pub piece_at : Production → Characters → Piece
piece_at ident_production text = ident_piece text
piece_at number_production text = number_piece text
piece_at production [] = plain whitespace 0
piece_at production (c ∷ cs) = piece_of production c cs

-- the piece that says what a token says
abbrev pub piece_saying : Said → ℕ → Piece
piece_saying token n = record { kind = token.kind; name = token.name; spelling = token.spelling; length = n }

-- the tokens from here on, by the production and by the piece
step_by : ℕ → ℕ → ℕ → Characters → Production → List Token
step_by n start c cs production =
    production_tokens production start c cs ++ tokens_from n (start + production_len production c cs) (drop (production_len production c cs) (c ∷ cs))

after_piece : ℕ → ℕ → Characters → Piece → List Token
after_piece n start text p = token_of start p ∷ tokens_from n (start + p.length) (drop p.length text)

by_piece : (n start c : ℕ) (cs : Characters) (production : Production) → is_comment production ≡ false → step_by n start c cs production ≡ after_piece n start (c ∷ cs) (piece_at production (c ∷ cs))
unfolding step_by after_piece
by_piece n start c cs comment_production none = absurd (false≢true (sym none))
by_piece n start c cs production none = refl

module _ (n start : ℕ) (production : Production) (none : is_comment production ≡ false) where
  one_step : (text : Characters) → 0 < length text → production_at text ≡ production → tokens_from (suc n) start text ≡ after_piece n start text (piece_at production text)
  unfolding step_by
  one_step [] some at = absurd (omega (arith, some))
  one_step (c ∷ cs) some at = ap (step_by n start c cs) at ∙ by_piece n start c cs production none

module _ {text rest : Characters} {token : Said} (production : Production) (none : is_comment production ≡ false) (some : 0 < length text) where
  pub one_piece : production_at (text ++ rest) ≡ production → piece_at production (text ++ rest) ≡ piece_saying token (length text) → ReadsOne text token rest
  unfolding after_piece
  one_piece at is = record {
    some = some;
    reads = λ n start.
        ap (map said) (one_step n start production none (text ++ rest) (omega (arith, some, length-append text rest)) at ∙ ap (after_piece n start (text ++ rest)) is)
        ∙ ap (λ left. token ∷ map said (tokens_from n (start + length text) left)) (drop_at text rest (length text) refl);
  }

-- what is true of the tokens of each piece is true of all tokens of a text
module _ (p : Token → Bool) (Good : Characters → Type 0) (left : (n : ℕ) (text : Characters) → Good text → Good (drop n text)) where
  abbrev OfPieces : Type 0
  OfPieces = (start c : ℕ) (cs : Characters) → Good (c ∷ cs) → list_all p (production_tokens (production_at (c ∷ cs)) start c cs) ≡ true

  all_from : OfPieces → (n start : ℕ) (text : Characters) → Good text → list_all p (tokens_from n start text) ≡ true
  all_from each zero start text good = refl
  all_from each (suc n) start [] good = refl
  all_from each (suc n) start (c ∷ cs) good =
      let taken : ℕ = production_len (production_at (c ∷ cs)) c cs in
      list_all-append p (production_tokens (production_at (c ∷ cs)) start c cs) (tokens_from n (start + taken) (drop taken (c ∷ cs)))
      ∙ and_from _ _ (each start c cs good) (all_from each n (start + taken) (drop taken (c ∷ cs)) (left taken (c ∷ cs) good))

  pub all_tokens : OfPieces → (text : Characters) → Good text → list_all p (tokens_in text) ≡ true
  unfolding tokens_in
  all_tokens each text good = all_from each (length text) 0 text good
