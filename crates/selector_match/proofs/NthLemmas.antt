-- The indexes An+B by a whole number of steps.
use Rattle.std.proofs.Common.{◌≡◌, ℕ, zero, suc, ◌+◌, ◌-◌, ◌*◌, ◌/◌, ◌%◌, ◌≤◌, Bool, true, false, ◌&&◌, ◌↔◌, ◌⊎◌, inl, inr, IsTrue, ℤ, pos, negsuc, ◌+ℤ◌, ◌-ℤ◌, ◌*ℤ◌, neg_ℤ, nat_abs, int_le, int_lt, nat_lt, nat_le, cond, refl, sym, subst, ap, ◌∙◌, arith}
use Rattle.std.specs.Cmp.{both_ways}
use Rattle.std.specs.List.{range_with_len}
use Rattle.std.proofs.Math.Nat.{mul-div_cancel', dvd_of_mod-eq-zero, mul-mod_right}
use Rattle.std.proofs.lemmas.Bool.{false≢true}
use Rattle.std.proofs.lemmas.Bool.Decides.{nat_tests}
use Rattle.std.proofs.lemmas.Int.{ints}
use Rattle.scene_model.proofs.Any.{any_in, in_any}
use Rattle.scene_model.proofs.Numbers.{is_in-range}
use lib.IntN.{sub_ℕ}
use Rattle.selector_model.specs.Selector.{AnB}
use Rattle.selector_model.specs.Comparisons.{same_int, is_nth}

-- a number of steps, from 0

abbrev pub IsWhole : ℤ → ℤ → Type 0
IsWhole step gap = (n : ℕ) × (step *ℤ pos n ≡ gap)

-- the gap lies on the side to which the steps go
abbrev pub IsAhead : ℤ → ℤ → Type 0
IsAhead step gap = ((int_lt step (pos 0) ≡ true) × (int_le gap (pos 0) ≡ true)) ⊎ ((int_lt step (pos 0) ≡ false) × (int_le (pos 0) gap ≡ true))

divided : (d s : ℕ) → d % s ≡ 0 → s * (d / s) ≡ d
divided d s h = mul-div_cancel' s (dvd_of_mod-eq-zero s h)

below_zero : (n : ℕ) → nat_lt n 0 ≡ true → ⊥
below_zero n h = grind (arith, nat_tests)

no_more : (n : ℕ) → nat_le n 0 ≡ true → n ≡ 0
no_more n h = grind (arith, nat_tests)

IsWhole-from : (step gap : ℤ) → IsAhead step gap → nat_abs gap % nat_abs step ≡ 0 → step *ℤ pos (nat_abs gap / nat_abs step) ≡ gap
IsWhole-from (pos s) (pos d) h e = ap pos (divided d s e)
IsWhole-from (pos s) (negsuc d) (inl h) e = absurd (below_zero s h.0)
IsWhole-from (pos s) (negsuc d) (inr h) e = absurd (false≢true h.1)
IsWhole-from (negsuc s) (pos d) (inl h) e =
    ap (λ n. neg_ℤ (pos n)) (divided d (suc s) e ∙ no_more d h.1) ∙ ap pos (sym (no_more d h.1))
IsWhole-from (negsuc s) (pos d) (inr h) e = absurd (false≢true (sym h.0))
IsWhole-from (negsuc s) (negsuc d) h e = ap (λ n. neg_ℤ (pos n)) (divided (suc d) (suc s) e)

size_turned : (m : ℕ) → nat_abs (neg_ℤ (pos m)) ≡ m
size_turned zero = refl
size_turned (suc m) = refl

product_left : (step : ℤ) (n : ℕ) → nat_abs (step *ℤ pos n) % nat_abs step ≡ 0
product_left (pos s) n = mul-mod_right s n
product_left (negsuc s) n = ap (λ m. m % suc s) (size_turned (suc s * n)) ∙ mul-mod_right (suc s) n

IsWhole-to : (step gap : ℤ) (n : ℕ) → step *ℤ pos n ≡ gap → nat_abs gap % nat_abs step ≡ 0
IsWhole-to step gap n e = ap (λ g. nat_abs g % nat_abs step) (sym e) ∙ product_left step n

-- the test of the code, where s and g are the step and the gap as they were read
pub whole_test : (step gap s g : ℤ) (m n : ℕ) (r : Bool) → s ≡ step → g ≡ gap → IsAhead s g → m ≡ nat_abs g → n ≡ nat_abs s → IsTrue r ↔ (m % n ≡ 0) → IsTrue r ↔ IsWhole step gap
whole_test step gap s g m n r same_step same_gap ahead e f h =
    let left : m % n ≡ nat_abs gap % nat_abs step = ap (λ k. k % n) (e ∙ ap nat_abs same_gap) ∙ ap (λ k. nat_abs gap % k) (f ∙ ap nat_abs same_step) in
    let here : IsAhead step gap = subst (λ z. IsAhead z gap) same_step (subst (IsAhead s) same_gap ahead) in (
      λ t. (nat_abs gap / nat_abs step, IsWhole-from step gap here (sym left ∙ h.0 t)),
      λ (k, is). h.1 (left ∙ IsWhole-to step gap k is),
    )

-- the size of a gap

size_between : (a b : ℕ) → nat_abs (sub_ℕ a b) ≤ a + b
size_between a b = chosen (nat_lt a b) refl
  where
    chosen : (t : Bool) → nat_lt a b ≡ t → nat_abs (cond t (negsuc (b - suc a)) (pos (a - b))) ≤ a + b
    chosen true e = grind (arith, nat_tests)
    chosen false e = omega arith

size_gap : (p : ℕ) (first : ℤ) → nat_abs (pos p -ℤ first) ≤ p + nat_abs first
size_gap p (pos zero) = omega arith
size_gap p (pos (suc b)) = size_between p (suc b)
size_gap p (negsuc b) = omega arith

grows : (s n : ℕ) → n ≤ suc s * n
grows s n = omega arith

-- there is such a number of steps up to the size of the gap
few_steps : (step gap : ℤ) (n : ℕ) → step *ℤ pos n ≡ gap → (m : ℕ) × ((m ≤ nat_abs gap) × (step *ℤ pos m ≡ gap))
few_steps (pos zero) gap n e = (0, (omega arith, omega (arith, ints)))
few_steps (pos (suc s)) gap n e = (n, (subst (λ g. n ≤ nat_abs g) e (grows s n), e))
few_steps (negsuc s) gap n e = (n, (subst (λ g. n ≤ nat_abs g) e (subst (λ m. n ≤ m) (sym (size_turned (suc s * n))) (grows s n)), e))

-- the equation of an index

same_nat : (a b : ℕ) → (nat_le a b && nat_le b a) ≡ true → a ≡ b
same_nat a b h = grind (arith, nat_tests)

same_int-true : (a b : ℤ) → same_int a b ≡ true → a ≡ b
same_int-true (pos a) (pos b) h = ap pos (same_nat a b h)
same_int-true (pos a) (negsuc b) h = cc
same_int-true (negsuc a) (pos b) h = cc
same_int-true (negsuc a) (negsuc b) h = ap negsuc (sym (same_nat b a h))

same_int-same : (a : ℤ) → same_int a a ≡ true
same_int-same (pos a) = grind (arith, nat_tests)
same_int-same (negsuc a) = grind (arith, nat_tests)

steps_from : (m first : ℤ) (p : ℕ) → m +ℤ first ≡ pos p → m ≡ pos p -ℤ first
steps_from m first p e = omega (arith, ints)

index_from : (m first : ℤ) (p : ℕ) → m ≡ pos p -ℤ first → m +ℤ first ≡ pos p
index_from m first p e = omega (arith, ints)

is_nth-from : (formula : AnB) (index : ℕ) → IsWhole formula.a (pos index -ℤ formula.b) → is_nth formula index ≡ true
is_nth-from formula index (n, e) =
    let (m, (few, is)) = few_steps formula.a (pos index -ℤ formula.b) n e in
    let size = size_gap index formula.b in
    in_any (λ n. same_int ((formula.a *ℤ pos n) +ℤ formula.b) (pos index)) m (range_with_len 0 (index + nat_abs formula.b + 1)) (is_in-range m 0 (index + nat_abs formula.b + 1) (omega arith) (omega arith))
    (ap (λ z. same_int z (pos index)) (index_from (formula.a *ℤ pos m) formula.b index is) ∙ same_int-same (pos index))

is_nth-to : (formula : AnB) (index : ℕ) → is_nth formula index ≡ true → IsWhole formula.a (pos index -ℤ formula.b)
is_nth-to formula index h =
    let (n, (i, t)) = any_in (λ n. same_int ((formula.a *ℤ pos n) +ℤ formula.b) (pos index)) (range_with_len 0 (index + nat_abs formula.b + 1)) h in
    (n, steps_from (formula.a *ℤ pos n) formula.b index (same_int-true ((formula.a *ℤ pos n) +ℤ formula.b) (pos index) t))

pub is_nth-test : (formula : AnB) (index : ℕ) (step gap : ℤ) (r : Bool) → step ≡ formula.a → gap ≡ pos index -ℤ formula.b → IsTrue r ↔ IsWhole step gap → r ≡ is_nth formula index
is_nth-test formula index step gap r same_step same_gap h =
    both_ways r (is_nth formula index)
    (λ t. is_nth-from formula index (subst (λ s. IsWhole s (pos index -ℤ formula.b)) same_step (subst (IsWhole step) same_gap (h.0 t))))
    (λ t. h.1 (subst (λ s. IsWhole s gap) (sym same_step) (subst (IsWhole formula.a) (sym same_gap) (is_nth-to formula index t))))
