-- How many tokens stand in a bracket, as they are counted.
use Rattle.std.proofs.Common.{◌≡◌, ℕ, ◌+◌, ◌<◌, true, false, cond, List, ◌∷◌, length, drop, get_or, sym, ap, ◌∙◌, arith}
use Rattle.std.proofs.lemmas.Bool.{cond-true, cond-false}
use Rattle.std.proofs.lemmas.List.{drop-drop, drop_all, drop_more}
use Rattle.base_model.specs.Lists.{is_nil}
use Rattle.syntax_model.specs.Token.{Token}
use Rattle.syntax_model.specs.Brackets.{Bracket, inside_len, open_past}

-- so many are counted, and these brackets are open after them
abbrev pub IsCounted : List Bracket → List Token → ℕ → List Bracket → Type 0
IsCounted start tokens n pending = n + inside_len pending (drop n tokens) ≡ inside_len start tokens

pub counted_none : (start : List Bracket) (tokens : List Token) → IsCounted start tokens 0 start
counted_none start tokens = omega arith

step : (tokens : List Token) (n : ℕ) (token : Token) (pending : List Bracket) → n < length tokens
    → token ≡ get_or tokens n token
    → inside_len pending (drop n tokens) ≡ cond (is_nil (open_past pending token)) 0 (1 + inside_len (open_past pending token) (drop (n + 1) tokens))
step tokens n token pending inside is =
    ap (inside_len pending) (drop_more tokens n token inside ∙ ap (λ t. t ∷ drop (n + 1) tokens) (sym is))

pub counted_more : (start : List Bracket) (tokens : List Token) (n : ℕ) (token : Token) (pending after : List Bracket)
    → IsCounted start tokens n pending → n < length tokens
    → token ≡ get_or tokens n token → after ≡ open_past pending token → is_nil after ≡ false → IsCounted start tokens (n + 1) after
counted_more start tokens n token pending after so_far inside is is_after opens =
    let one : inside_len pending (drop n tokens) ≡ 1 + inside_len (open_past pending token) (drop (n + 1) tokens) = step tokens n token pending inside is ∙ cond-false (is_nil (open_past pending token)) _ _ (ap is_nil (sym is_after) ∙ opens) in
    rw is_after (omega (arith, one, so_far))

pub counted_closed : (start : List Bracket) (tokens : List Token) (n : ℕ) (token : Token) (pending after : List Bracket)
    → IsCounted start tokens n pending → n < length tokens
    → token ≡ get_or tokens n token → after ≡ open_past pending token → is_nil after ≡ true → n ≡ inside_len start tokens
counted_closed start tokens n token pending after so_far inside is is_after closes =
    let none : inside_len pending (drop n tokens) ≡ 0 = step tokens n token pending inside is ∙ cond-true (is_nil (open_past pending token)) _ _ (ap is_nil (sym is_after) ∙ closes) in
    omega (arith, none, so_far)

pub counted_all : (start : List Bracket) (tokens : List Token) (n : ℕ) (pending : List Bracket) → IsCounted start tokens n pending → n ≡ length tokens → n ≡ inside_len start tokens
counted_all start tokens n pending so_far is =
    let none : inside_len pending (drop n tokens) ≡ 0 = ap (inside_len pending) (drop_all n tokens (omega (arith, is))) in
    omega (arith, none, so_far)

pub drop_closer : (n : ℕ) (tokens closed rest : List Token) → closed ≡ drop n tokens → rest ≡ drop 1 closed → rest ≡ drop (n + 1) tokens
drop_closer n tokens closed rest e f = f ∙ (ap (drop 1) e ∙ drop-drop 1 n tokens)
