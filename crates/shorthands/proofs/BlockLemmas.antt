-- What comes after brackets are closed.
use Rattle.std.proofs.Common.{◌≡◌, Bool, true, false, if◌then◌else◌, List, [], ◌∷◌, ◌++◌, drop, Option, Some, None, refl, ap, ◌∙◌}
use Rattle.std.proofs.Math.Numerals.{one-add}
use Rattle.std.proofs.lemmas.Bool.{cond-true, cond-false}
use Rattle.base_model.specs.Lists.{is_nil}
use Rattle.syntax_model.specs.Token.{Token, TokenKind}
use Rattle.syntax_model.specs.Brackets.{Bracket, open_past, same_bracket, with_opened, without_closed, opened_by, closed_by}
use Rattle.syntax_model.specs.Outside.{from_first, length_before}
use Rattle.shorthands.specs.Blocks.{after_closer}

opened_over : (opener : Option Bracket) (pending under : List Bracket) → with_opened opener (pending ++ under) ≡ with_opened opener pending ++ under
opened_over None pending under = refl
opened_over (Some bracket) pending under = refl

closed_over : (closer : Option Bracket) (innermost : Bracket) (pending under : List Bracket) → without_closed (innermost ∷ (pending ++ under)) closer ≡ without_closed (innermost ∷ pending) closer ++ under
closed_over None innermost pending under = refl
closed_over (Some bracket) innermost pending under =
    elim (same_bracket innermost bracket) as (λ same. (if same then (pending ++ under) else (innermost ∷ (pending ++ under))) ≡ (if same then pending else (innermost ∷ pending)) ++ under) [
      | true ↦ refl
      | false ↦ refl
    ]

-- while a bracket is open, those that are under it do not change
past_over : (innermost : Bracket) (pending under : List Bracket) (token : Token) → open_past (innermost ∷ (pending ++ under)) token ≡ open_past (innermost ∷ pending) token ++ under
past_over innermost pending under token =
    ap (with_opened (opened_by token.kind)) (closed_over (closed_by token.kind) innermost pending under)
    ∙ opened_over (opened_by token.kind) (without_closed (innermost ∷ pending) (closed_by token.kind)) under

-- brackets are closed from the innermost one out
pub closed_in_order : (inner under : List Bracket) (tokens : List Token) → after_closer (inner ++ under) tokens ≡ after_closer under (after_closer inner tokens)
closed_in_order inner under [] = refl
closed_in_order [] under (token ∷ tokens) = refl
closed_in_order (innermost ∷ pending) under (token ∷ tokens) =
    ap (λ now. after_closer now tokens) (past_over innermost pending under token)
    ∙ closed_in_order (open_past (innermost ∷ pending) token) under tokens

-- nothing outside brackets comes before the closer
first_outside : (p : TokenKind → Bool) (pending : List Bracket) (tokens : List Token) → drop (length_before p pending tokens) tokens ≡ from_first p (after_closer pending tokens)
first_outside p pending [] = refl
first_outside p [] (token ∷ tokens) = refl
first_outside p (innermost ∷ pending) (token ∷ tokens) =
    rw one-add (first_outside p (open_past (innermost ∷ pending) token) tokens)

-- past a token that does not pass, and what stands in its bracket
pub first_later : (p : TokenKind → Bool) (tokens : List Token) (token : Token) (rest : List Token) → tokens ≡ token ∷ rest → p token.kind ≡ false → from_first p tokens ≡ from_first p (after_closer (open_past [] token) rest)
first_later p tokens token rest is fails =
    ap (from_first p) is
    ∙ (ap (λ n. drop n (token ∷ rest)) (cond-false (p token.kind) _ _ fails)
    ∙ rw one-add (first_outside p (open_past [] token) rest))

-- nothing is open
pub closed_none : (pending : List Bracket) (tokens : List Token) → is_nil pending ≡ true → after_closer pending tokens ≡ tokens
closed_none pending [] none = refl
closed_none pending (token ∷ tokens) none = cond-true (is_nil pending) _ _ none

-- a token that opens no bracket leaves none open
pub closed_at_once : (token : Token) (tokens : List Token) → opened_by token.kind ≡ None → after_closer (open_past [] token) tokens ≡ tokens
closed_at_once token tokens opens =
    ap (λ opener. after_closer (with_opened opener (without_closed [] (closed_by token.kind))) tokens) opens
    ∙ closed_none (without_closed [] (closed_by token.kind)) tokens (none_open (closed_by token.kind))
  where
    none_open : (closer : Option Bracket) → is_nil (without_closed [] closer) ≡ true
    none_open None = refl
    none_open (Some bracket) = refl
