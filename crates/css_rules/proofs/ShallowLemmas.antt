-- Few tokens open few brackets.
use Rattle.std.proofs.Common.{◌≡◌, suc, ◌+◌, ◌≤◌, List, [], ◌∷◌, length, true, false, Option, Some, None}
use Rattle.std.proofs.Common.{refl, arith}
use Rattle.std.specs.Prelude.{if◌then◌else◌}
use Rattle.std.proofs.lemmas.Bool.{le-leb}
use Rattle.syntax_model.specs.Token.{Token}
use Rattle.syntax_model.specs.Brackets.{Bracket, closed_by, is_shallow, is_shallow_within, nesting_limit, open_past}
use Rattle.syntax_model.specs.Brackets.{opened_by, same_bracket, with_opened, without_closed}

no_more_closed : (pending : List Bracket) (closer : Option Bracket)
    → length (without_closed pending closer) ≤ length pending
no_more_closed pending None = omega arith
no_more_closed [] (Some bracket) = omega arith
no_more_closed (innermost ∷ pending) (Some bracket) =
    elim (same_bracket innermost bracket)
    as (λ same. length (if same then pending else innermost ∷ pending) ≤ suc (length pending)) [
      | true ↦ omega arith
      | false ↦ omega arith
    ]

one_more_opened : (opener : Option Bracket) (pending : List Bracket)
    → length (with_opened opener pending) ≤ suc (length pending)
one_more_opened None pending = omega arith
one_more_opened (Some bracket) pending = omega arith

-- a token opens one bracket at most
one_more : (pending : List Bracket) (token : Token) → length (open_past pending token) ≤ suc (length pending)
one_more pending token =
    let closed = no_more_closed pending (closed_by token.kind) in
    let opened = one_more_opened (opened_by token.kind) (without_closed pending (closed_by token.kind)) in
    omega (arith, opened, closed)

shallow_within : (pending : List Bracket) (tokens : List Token)
    → length pending + length tokens ≤ nesting_limit → is_shallow_within pending tokens ≡ true
shallow_within pending [] few = refl
shallow_within pending (token ∷ tokens) few =
    rw (le-leb (length (open_past pending token)) nesting_limit (omega (arith, one_more pending token)))
    (shallow_within (open_past pending token) tokens (omega (arith, one_more pending token)))

-- no more tokens than the limit are shallow
pub few_are_shallow : (tokens : List Token) → length tokens ≤ nesting_limit → is_shallow tokens ≡ true
few_are_shallow tokens few = shallow_within [] tokens (omega arith)
