-- Brackets as the digits of a number.
use Rattle.std.proofs.Common.{◌≡◌, ℕ, zero, suc, ◌+◌, ◌*◌, ◌/◌, ◌%◌, ◌^◌, ◌<◌, ◌==◌, true, false, if◌then◌else◌, [], ◌∷◌, Some, refl, sym, ap, ◌∙◌, arith}
use Rattle.std.proofs.Math.Nat.{pow-suc}
use Rattle.std.proofs.lemmas.Bool.{cond-true, cond-false}
use Rattle.std.proofs.lemmas.Bool.Decides.{nat_tests}
use Rattle.syntax_model.specs.Brackets.{Bracket, square, round, curly, same_bracket, without_closed}
use Rattle.shorthands.specs.Digits.{bracket_at, brackets_in, brackets_of_digits, digits_before, first_bracket}

-- room for one digit more changes nothing
more_digits : (count digits : ℕ) → digits < 4 ^ count → brackets_of_digits (suc count) digits ≡ brackets_of_digits count digits
more_digits zero digits few = let none : digits ≡ 0 = omega arith in rw none refl
more_digits (suc count) digits few =
    let fewer : digits / 4 < 4 ^ count = omega (arith, pow-suc 4 count) in
    ap (λ list. if digits == 0 then [] else (bracket_at (digits % 4) ∷ list)) (more_digits count (digits / 4) fewer)

-- the least number that has no room for one more
pub full_is : 4 ^ digits_before ≡ 85_070_591_730_234_615_865_843_651_857_942_052_864
unfolding digits_before
full_is = refl

-- the last digit is the innermost one
pub some_open : (digits : ℕ) → digits < 2 ^ 128 → (digits == 0) ≡ false → brackets_in digits ≡ bracket_at (digits % 4) ∷ brackets_in (digits / 4)
some_open digits small some =
    let few : digits / 4 < 4 ^ digits_before = rw full_is (omega arith) in
    cond-false (digits == 0) _ _ some
    ∙ ap (λ list. bracket_at (digits % 4) ∷ list) (sym (more_digits digits_before (digits / 4) few))

pub first_is : (digits : ℕ) → (digits == 0) ≡ false → first_bracket (brackets_in digits) ≡ Some (bracket_at (digits % 4))
first_is digits some = ap first_bracket (cond-false (digits == 0) _ _ some)

not_zero : (n : ℕ) → 0 < n → (n == 0) ≡ false
not_zero n some = grind (arith, nat_tests)

-- one more digit
pub opened_is : (digits digit : ℕ) (bracket : Bracket) → digits * 4 + digit < 2 ^ 128 → 0 < digit → digit < 4 → bracket_at digit ≡ bracket → brackets_in (digits * 4 + digit) ≡ bracket ∷ brackets_in digits
opened_is digits digit bracket small some less is =
    let last : (digits * 4 + digit) % 4 ≡ digit = omega arith in
    let others : (digits * 4 + digit) / 4 ≡ digits = omega arith in
    some_open (digits * 4 + digit) small (not_zero (digits * 4 + digit) (omega arith))
    ∙ rw (last, others, is) refl

same_is : (bracket : Bracket) → same_bracket bracket bracket ≡ true
same_is square = refl
same_is round = refl
same_is curly = refl

-- the innermost one is closed
pub closed_is : (digits : ℕ) (bracket : Bracket) → digits < 2 ^ 128 → first_bracket (brackets_in digits) ≡ Some bracket → brackets_in (digits / 4) ≡ without_closed (brackets_in digits) (Some bracket)
closed_is digits bracket small first =
    elim (digits == 0) as (λ b. (digits == 0) ≡ b → brackets_in (digits / 4) ≡ without_closed (brackets_in digits) (Some bracket)) [
      | true ↦ λ none. absurd (no_first (ap first_bracket (sym (cond-true (digits == 0) _ _ none)) ∙ first))
      | false ↦ λ some. last_closed (sym (first_is digits some) ∙ first) (some_open digits small some)
    ] refl
  where
    no_first : first_bracket [] ≡ Some bracket → ⊥
    no_first e = cc

    last_closed : Some (bracket_at (digits % 4)) ≡ Some bracket → brackets_in digits ≡ bracket_at (digits % 4) ∷ brackets_in (digits / 4) → brackets_in (digits / 4) ≡ without_closed (brackets_in digits) (Some bracket)
    last_closed innermost open_are =
        let same : bracket_at (digits % 4) ≡ bracket = cc in
        sym (ap (λ pending. without_closed pending (Some bracket)) open_are
        ∙ cond-true (same_bracket (bracket_at (digits % 4)) bracket) _ _ (ap (λ b. same_bracket b bracket) same ∙ same_is bracket))
