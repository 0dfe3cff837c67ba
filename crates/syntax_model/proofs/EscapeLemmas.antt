-- Hexadecimal escapes as they are written, and as they are read.
use Rattle.std.proofs.Common.{◌≡◌, ℕ, ◌+◌, ◌<◌, ◌/◌, ◌%◌, Bool, true, false, cond, eqb, [], ◌∷◌, ◌++◌, length, drop, refl, ap, ◌∙◌, arith, inl, inr}
use Rattle.std.specs.Prelude.{nat_le, Some, ◌&&◌, ◌||◌}
use Rattle.std.proofs.lemmas.Bool.{cond_both, cond-false, eqb-true, agree_below_at, and_parts, or_cases, not_from_false}
use Rattle.std.proofs.lemmas.Bool.Decides.{nat_tests}
use Rattle.base_model.specs.Text.{Characters}
use Rattle.syntax_model.specs.Letters.{is_hex_digit}
use Rattle.syntax_model.specs.TextUnits.{character_of, escape, hex_number, starts_escape, string_escape}
use Rattle.syntax_model.specs.Written.{hex_digit, hex_escape}

-- the digits of each character are the digits of its number
abbrev one_right : ℕ → ℕ → Bool
one_right c d = is_hex_digit d && eqb (character_of (hex_number 0 (d ∷ []))) c

abbrev two_right : ℕ → ℕ → ℕ → Bool
two_right c d e = is_hex_digit d && (is_hex_digit e && eqb (character_of (hex_number 0 (d ∷ e ∷ []))) c)

abbrev digits_right : ℕ → Bool
digits_right c = eqb c 0 || cond (nat_le 16 c) (two_right c (hex_digit (c / 16)) (hex_digit (c % 16))) (one_right c (hex_digit c))

all_right : (c : ℕ) → c < 128 → digits_right c ≡ true
all_right c h = agree_below_at digits_right (λ _. true) 128 c refl h

-- what the tests say: one digit or two, and a space
two_reads : (c d e : ℕ) (more : Characters) → two_right c d e ≡ true → escape (d ∷ e ∷ 32 ∷ more) ≡ record { taken = 4; said = Some c }
two_reads c d e more right =
    let first = and_parts (is_hex_digit d) _ right in
    let others = and_parts (is_hex_digit e) _ first.1 in
    rw (first.0, others.0) (ap (λ (n : ℕ). record { taken = 4; said = Some n }) (eqb-true _ c others.1))

one_reads : (c d : ℕ) (more : Characters) → one_right c d ≡ true → escape (d ∷ 32 ∷ more) ≡ record { taken = 3; said = Some c }
one_reads c d more right =
    let parts = and_parts (is_hex_digit d) _ right in
    rw parts.0 (ap (λ (n : ℕ). record { taken = 3; said = Some n }) (eqb-true _ c parts.1))

digits_read : (c : ℕ) (more : Characters) (b : Bool) → cond b (two_right c (hex_digit (c / 16)) (hex_digit (c % 16))) (one_right c (hex_digit c)) ≡ true
    → let digits = cond b (hex_digit (c / 16) ∷ hex_digit (c % 16) ∷ []) (hex_digit c ∷ []) ++ 32 ∷ [] in
    escape (digits ++ more) ≡ record { taken = 1 + length digits; said = Some c }
digits_read c more true right = two_reads c (hex_digit (c / 16)) (hex_digit (c % 16)) more right
digits_read c more false right = one_reads c (hex_digit c) more right

-- The escape of an ASCII character reads as it, and no character after it is taken.
pub escape_reads : (c : ℕ) (more : Characters) → (0 < c) × (c < 128) → escape (drop 1 (hex_escape c) ++ more) ≡ record { taken = length (hex_escape c); said = Some c }
escape_reads c more small =
    elim (or_cases (eqb c 0) _ (all_right c small.1)) [
      | inl e ↦ absurd (omega (arith, small, eqb-true c 0 e))
      | inr right ↦ digits_read c more (nat_le 16 c) right ∙ ap (λ (n : ℕ). record { taken = n; said = Some c }) (omega arith)
    ]

-- no hexadecimal digit is a line feed, so it is a valid escape, and in a string it is escaped as elsewhere
digit_goes_on : (d : ℕ) → eqb (hex_digit d) 10 ≡ false
digit_goes_on d = cond_both (nat_le d 9) (48 + d) (87 + d) (λ n. eqb n 10 ≡ false) (λ _. grind (arith, nat_tests)) (λ _. grind (arith, nat_tests))

pub escape_starts : (c : ℕ) (more : Characters) → starts_escape (hex_escape c ++ more) ≡ true
escape_starts c more = cond_both (nat_le 16 c) _ _ (λ (digits : Characters). starts_escape ((92 ∷ digits ++ 32 ∷ []) ++ more) ≡ true)
    (λ _. not_from_false _ (digit_goes_on (c / 16))) (λ _. not_from_false _ (digit_goes_on c))

pub string_escape_is : (c : ℕ) (more : Characters) → string_escape (drop 1 (hex_escape c) ++ more) ≡ escape (drop 1 (hex_escape c) ++ more)
string_escape_is c more =
    cond_both (nat_le 16 c) _ _ (λ (digits : Characters). string_escape ((digits ++ 32 ∷ []) ++ more) ≡ escape ((digits ++ 32 ∷ []) ++ more))
    (λ _. cond-false _ _ _ (digit_goes_on (c / 16))) (λ _. cond-false _ _ _ (digit_goes_on c))

-- a character that is no hexadecimal digit, after `\`
pub plain_escape : (c : ℕ) (more : Characters) → is_hex_digit c ≡ false → escape (c ∷ more) ≡ record { taken = 2; said = Some c }
plain_escape c more h = rw h refl
