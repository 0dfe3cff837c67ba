-- The declarations of a list of tokens, one piece after another.
use Rattle.std.proofs.Common.{◌≡◌, ℕ, zero, suc, ◌+◌, ◌≤◌, true, false, List, [], ◌∷◌, ◌++◌, length, refl, ap, arith, length-drop}
use Rattle.std.specs.Option.{option_to_list}
use Rattle.std.proofs.lemmas.Bool.{cond_both, cond-true, cond-false, or_parts}
use Rattle.syntax_model.specs.Token.{Token}
use Rattle.syntax_model.specs.TokenKinds.{is_at_keyword, is_between, is_semicolon, is_white}
use Rattle.syntax_model.specs.Brackets.{Bracket, closed, open_past}
use Rattle.syntax_model.specs.Outside.{from_first, length_before, up_to}
use Rattle.syntax_model.specs.Rules.{Declaration}
use Rattle.syntax_model.specs.RulesIn.{after_at_rule, declaration_in, declarations_from, declarations_in, ends_at_rule}

-- what is left after a piece that begins with no semicolon is shorter
left_shorter : (token : Token) (tokens : List Token) → is_between token.kind ≡ false → length (from_first is_semicolon (token ∷ tokens)) ≤ length tokens
left_shorter token tokens other =
    let some : length_before is_semicolon [] (token ∷ tokens) ≡ 1 + length_before is_semicolon (open_past [] token) tokens =
    cond-false (is_semicolon token.kind) _ _ (or_parts (is_white token.kind) _ other).1 in
    omega (arith, some, length-drop (length_before is_semicolon [] (token ∷ tokens)) (token ∷ tokens))

-- and so is what is after an at-rule
pub after_shorter : (pending : List Bracket) (tokens : List Token) → length (after_at_rule pending tokens) ≤ length tokens
after_shorter pending [] = omega arith
after_shorter pending (t ∷ tokens) = cond_both (ends_at_rule pending t) _ _ (λ (ts : List Token). length ts ≤ length (t ∷ tokens)) (λ _. omega arith)
    (λ _. omega (arith, after_shorter (open_past pending t) tokens))

-- enough steps are enough
enough : (n m : ℕ) (tokens : List Token) → length tokens ≤ n → length tokens ≤ m → declarations_from n tokens ≡ declarations_from m tokens
enough zero zero tokens h k = refl
enough zero (suc m) [] h k = refl
enough zero (suc m) (t ∷ tokens) h k = absurd (omega (arith, h))
enough (suc n) zero [] h k = refl
enough (suc n) zero (t ∷ tokens) h k = absurd (omega (arith, k))
enough (suc n) (suc m) [] h k = refl
enough (suc n) (suc m) (t ∷ tokens) h k =
    let P : List Declaration → Type 0 = λ ds. ds ≡ declarations_from (suc m) (t ∷ tokens) in
    let again : (ts : List Token) → length ts ≤ length tokens → declarations_from n ts ≡ declarations_from m ts =
    λ ts less. enough n m ts (omega (arith, less, h)) (omega (arith, less, k)) in
    cond_both (is_between t.kind) _ _ P (λ skipped. rw skipped (again tokens (omega arith)))
    (λ other. cond_both (is_at_keyword t.kind) _ _ P (λ at. rw (other, at) (again (after_at_rule [] tokens) (after_shorter [] tokens)))
    (λ none. rw (other, none) (ap (λ ds. option_to_list (declaration_in (closed (up_to is_semicolon (t ∷ tokens)))) ++ ds)
    (again (from_first is_semicolon (t ∷ tokens)) (left_shorter t tokens other)))))

-- whitespace and semicolons are skipped
pub skip_one : (token : Token) (tokens : List Token) → is_between token.kind ≡ true → declarations_in (token ∷ tokens) ≡ declarations_in tokens
unfolding declarations_in
skip_one token tokens skipped = cond-true (is_between token.kind) _ _ skipped

-- an at-rule is dropped
pub drop_at_rule : (token : Token) (tokens : List Token) → is_between token.kind ≡ false → is_at_keyword token.kind ≡ true
    → declarations_in (token ∷ tokens) ≡ declarations_in (after_at_rule [] tokens)
unfolding declarations_in
drop_at_rule token tokens other at = rw (other, at) (enough _ _ (after_at_rule [] tokens) (after_shorter [] tokens) (omega arith))

-- a piece, and then those of the rest
pub take_one : (token : Token) (tokens : List Token) → is_between token.kind ≡ false → is_at_keyword token.kind ≡ false → declarations_in (token ∷ tokens)
    ≡ option_to_list (declaration_in (closed (up_to is_semicolon (token ∷ tokens)))) ++ declarations_in (from_first is_semicolon (token ∷ tokens))
unfolding declarations_in
take_one token tokens other none =
    rw (other, none) (ap (λ ds. option_to_list (declaration_in (closed (up_to is_semicolon (token ∷ tokens)))) ++ ds)
    (enough _ _ (from_first is_semicolon (token ∷ tokens)) (left_shorter token tokens other) (omega arith)))

pub none_left : declarations_in [] ≡ []
unfolding declarations_in
none_left = refl
