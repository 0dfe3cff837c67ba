-- What is outside brackets.
use Rattle.std.proofs.Common.{◌≡◌, ℕ, ◌+◌, ◌<◌, ◌≤◌, Bool, true, false, cond, ◌&&◌, List, [], ◌∷◌, ◌++◌, length, take, drop, get_or}
use Rattle.std.proofs.Common.{refl, sym, ap, ◌∙◌, arith}
use Rattle.std.proofs.Math.Numerals.{one-add}
use Rattle.std.proofs.lemmas.Bool.{cond_both, false≢true}
use Rattle.std.proofs.lemmas.List.{drop_more, take_more}
use Rattle.base_model.specs.Lists.{is_nil, onto_first}
use Rattle.syntax_model.specs.Token.{Token, TokenKind}
use Rattle.syntax_model.specs.Brackets.{Bracket, open_after, open_past}
use Rattle.syntax_model.specs.Outside.{from_first, length_before, parts_between, parts_within, up_to}

-- one more token at the end
pub open_after-push : (pending : List Bracket) (tokens : List Token) (token : Token)
    → open_after pending (tokens ++ token ∷ []) ≡ open_past (open_after pending tokens) token
open_after-push pending [] token = refl
open_after-push pending (t ∷ tokens) token = open_after-push (open_past pending t) tokens token

-- a list that is empty by its test
pub nil_from_test : {X : Type 0} (xs : List X) → is_nil xs ≡ true → xs ≡ []
nil_from_test [] e = refl
nil_from_test (x ∷ xs) e = absurd (false≢true e)

pub inside_all : (p : TokenKind → Bool) (pending : List Bracket) (tokens : List Token) → length_before p pending tokens ≤ length tokens
inside_all p pending [] = omega arith
inside_all p pending (t ∷ tokens) = cond_both (is_nil pending && p t.kind) _ _ (λ n. n ≤ length (t ∷ tokens)) (λ _. omega arith)
    (λ _. omega (arith, inside_all p (open_past pending t) tokens))

-- A walk over the tokens: none of so many separates outside brackets, and these brackets are open after them.
pub record IsBefore (p : TokenKind → Bool) (tokens : List Token) (n : ℕ) (pending : List Bracket) : Type 0 where
  pub length : n + length_before p pending (drop n tokens) ≡ length_before p [] tokens
  pub brackets : pending ≡ open_after [] (take n tokens)

module _ (p : TokenKind → Bool) (tokens : List Token) (n : ℕ) (token : Token) (pending : List Bracket) where
  -- the token there, and those after it
  here : n < length tokens → token ≡ get_or tokens n token → drop n tokens ≡ token ∷ drop (n + 1) tokens
  here inside is = drop_more tokens n token inside ∙ ap (λ t. t ∷ drop (n + 1) tokens) (sym is)

  pub before_more : (after : List Bracket) → IsBefore p tokens n pending → n < length tokens → token ≡ get_or tokens n token
      → (is_nil pending && p token.kind) ≡ false → after ≡ open_past pending token → IsBefore p tokens (n + 1) after
  before_more after so_far inside is fails is_after =
      let next : take (n + 1) tokens ≡ take n tokens ++ token ∷ [] = take_more tokens n token inside ∙ ap (λ t. take n tokens ++ t ∷ []) (sym is) in
      let step : length_before p pending (drop n tokens) ≡ 1 + length_before p (open_past pending token) (drop (n + 1) tokens) = rw (here inside is, fails) refl in
      rw is_after record {
        length = omega (arith, step, so_far.length);
        brackets = rw next (ap (λ b. open_past b token) so_far.brackets ∙ sym (open_after-push [] (take n tokens) token));
      }

  -- the walk ends at a separator
  pub before_found : IsBefore p tokens n pending → n < length tokens → token ≡ get_or tokens n token
      → (is_nil pending && p token.kind) ≡ true → n ≡ length_before p [] tokens
  before_found so_far inside is passes =
      let none : length_before p pending (drop n tokens) ≡ 0 = rw (here inside is, passes) refl in
      omega (arith, none, so_far.length)

-- The parts are what comes before the first separator, and the parts of what follows it, if there is one.
abbrev pub parts_after : (TokenKind → Bool) → List Token → List (List Token)
parts_after p [] = []
parts_after p (separator ∷ tokens) = parts_between p tokens

module _ (p : TokenKind → Bool) where
  parts_first : (pending : List Bracket) (tokens : List Token)
      → let n = length_before p pending tokens in parts_within p pending tokens ≡ take n tokens ∷ parts_after p (drop n tokens)
  parts_first pending [] = refl
  parts_first pending (t ∷ tokens) =
      let n : ℕ = 1 + length_before p (open_past pending t) tokens in
      elim (is_nil pending && p t.kind) as (λ b. cond b ([] ∷ parts_between p tokens) (onto_first t (parts_within p (open_past pending t) tokens))
      ≡ take (cond b 0 n) (t ∷ tokens) ∷ parts_after p (drop (cond b 0 n) (t ∷ tokens))) [
        | true ↦ refl
        | false ↦ rw one-add (ap (onto_first t) (parts_first (open_past pending t) tokens))
      ]

  pub parts_split : (tokens : List Token) → parts_between p tokens ≡ up_to p tokens ∷ parts_after p (from_first p tokens)
  parts_split tokens = parts_first [] tokens
