-- The tokens of a text, piece by piece.
use Rattle.std.proofs.Common.{◌≡◌, ℕ, zero, suc, ◌+◌, ◌≤◌, List, [], ◌∷◌, ◌++◌, length, drop, refl, ap, arith, length-drop}
use Rattle.base_model.specs.Text.{Characters}
use Rattle.syntax_model.specs.Token.{Token}
use Rattle.syntax_model.specs.Pieces.{production_at, production_len, production_tokens}
use Rattle.syntax_model.specs.TokensIn.{tokens_from}
use Rattle.syntax_model.proofs.PieceLemmas.{first_is}

-- enough steps are enough
tokens_enough : (n m start : ℕ) (text : Characters) → length text ≤ n → length text ≤ m → tokens_from n start text ≡ tokens_from m start text
tokens_enough zero zero start text h k = refl
tokens_enough zero (suc m) start [] h k = refl
tokens_enough zero (suc m) start (c ∷ cs) h k = absurd (omega (arith, h))
tokens_enough (suc n) zero start [] h k = refl
tokens_enough (suc n) zero start (c ∷ cs) h k = absurd (omega (arith, k))
tokens_enough (suc n) (suc m) start [] h k = refl
tokens_enough (suc n) (suc m) start (c ∷ cs) h k =
    let taken : ℕ = production_len (production_at (c ∷ cs)) c cs in
    let left : length (drop taken (c ∷ cs)) ≤ length cs = omega (arith, (first_is c cs).some, length-drop taken (c ∷ cs)) in
    ap (λ ts. production_tokens (production_at (c ∷ cs)) start c cs ++ ts) (tokens_enough n m _ _ (omega (arith, left, h)) (omega (arith, left, k)))

-- the tokens of a text that begins at an offset
abbrev pub tokens_at : ℕ → Characters → List Token
tokens_at start text = tokens_from (length text) start text

-- those of the first piece, and then those of the rest
pub tokens_more : (start c : ℕ) (cs : Characters) → let production = production_at (c ∷ cs) in let taken = production_len production c cs in
    tokens_at start (c ∷ cs) ≡ production_tokens production start c cs ++ tokens_at (start + taken) (drop taken (c ∷ cs))
tokens_more start c cs =
    let taken : ℕ = production_len (production_at (c ∷ cs)) c cs in
    let left : length (drop taken (c ∷ cs)) ≤ length cs = omega (arith, (first_is c cs).some, length-drop taken (c ∷ cs)) in
    ap (λ ts. production_tokens (production_at (c ∷ cs)) start c cs ++ ts) (tokens_enough _ _ _ _ left (omega arith))
