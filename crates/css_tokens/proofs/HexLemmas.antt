-- Hexadecimal digits, as the code reads them.
use Rattle.std.proofs.Common.{◌≡◌, ℕ, zero, suc, ◌+◌, ◌*◌, ◌^◌, ◌<◌, ◌≤◌, true, [], ◌∷◌, length, get_or, take, drop, refl, sym, ap, ◌∙◌, arith}
use Rattle.std.specs.List.{prefix_len}
use Rattle.std.proofs.Math.Numerals.{one-add, unary_clauses}
use Rattle.std.proofs.lemmas.Bool.{cond_both, cond-true}
use Rattle.std.proofs.lemmas.List.{drop_more}
use Rattle.std.proofs.lemmas.List.Sums.{prefix_len_passes}
use Rattle.base_model.specs.Text.{Characters}
use Rattle.syntax_model.specs.Letters.{is_hex_digit}
use Rattle.syntax_model.specs.TextUnits.{hex_number, hex_value}

-- so many digits are read, and they have this value
pub record IsReadUpTo (digits : Characters) (i number : ℕ) : Type 0 where
  pub value : hex_number number (drop i digits) ≡ hex_number 0 digits
  pub bound : number < 16 ^ i

-- room for six digits
pub room : (i n : ℕ) → i < 6 → n < 16 ^ i → n < 2 ^ 20
room zero n few below = omega (arith, below)
room (suc zero) n few below = omega (arith, below)
room (suc (suc zero)) n few below = omega (arith, below)
room (suc (suc (suc zero))) n few below = omega (arith, below)
room (suc (suc (suc (suc zero)))) n few below = omega (arith, below)
room (suc (suc (suc (suc (suc zero))))) n few below = omega (arith, below)
room (suc (suc (suc (suc (suc (suc i)))))) n few below = absurd (omega (arith, few))

-- the next digit is one
pub hex_at : (digits : Characters) (i d : ℕ) → prefix_len is_hex_digit digits ≡ length digits → i < length digits → is_hex_digit (get_or digits i d) ≡ true
hex_at digits i d all inside = prefix_len_passes is_hex_digit digits i d (omega (arith, inside, all))

-- one digit on
pub digit_more : (digits : Characters) (i number d v : ℕ) → IsReadUpTo digits i number → i < length digits → d ≡ get_or digits i d → v ≡ hex_value d → v ≤ 15 → IsReadUpTo digits (i + 1) (16 * number + v)
digit_more digits i number d v up inside is value small =
    let next : drop i digits ≡ d ∷ drop (i + 1) digits = drop_more digits i d inside ∙ ap (λ c. c ∷ drop (i + 1) digits) (sym is) in
    record {
      value = rw value (ap (hex_number number) (sym next) ∙ up.value);
      bound = simp unary_clauses (by (16 ^ i) up.bound);
    }
  where
    by : (p : ℕ) → number < p → 16 * number + v < p * 16
    by p below = omega (arith, small, below)

-- the digits at the beginning, among so many characters, are digits
pub own_prefix : (m : ℕ) (text : Characters) → prefix_len is_hex_digit (take (prefix_len is_hex_digit (take m text)) text) ≡ prefix_len is_hex_digit (take m text)
own_prefix zero text = refl
own_prefix (suc m) [] = refl
own_prefix (suc m) (c ∷ cs) =
    cond_both (is_hex_digit c) (1 + prefix_len is_hex_digit (take m cs)) 0 (λ n. prefix_len is_hex_digit (take n (c ∷ cs)) ≡ n)
    (λ passes. rw one-add (cond-true _ _ _ passes ∙ (ap (λ n. 1 + n) (own_prefix m cs) ∙ one-add _))) (λ _. refl)
