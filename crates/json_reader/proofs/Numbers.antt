-- Whole numbers, as they are written.
use Rattle.std.proofs.Common.{◌≡◌, ℕ, ◌<◌, ◌^◌, ◌==◌, ◌&&◌, nat_lt, not, List, length, get_or, drop, Bool, true, false, cond, Option, Some, None, option_and_then, refl, sym, ap, ◌∙◌, arith}
use Rattle.std.proofs.lemmas.Bool.Decides.{nat_tests}
use Rattle.std.specs.Option.{SomeIff}
use Rattle.std.specs.Float.{binary64, float_is_finite}
use Rattle.std.proofs.lemmas.Bool.{not-true, and_parts}
use Rattle.fast_float.specs.Text.{Parts, scan, digits_of, nearest, IsInteger}
use Rattle.serde_json.specs.Data.{Num}
use Rattle.serde_json.specs.Find.{as_u64}
use Rattle.serde_json.specs.Read.{number_of, number_from, float_of, is_integer}
use Rattle.json_reader.specs.Parts.{whole_of}

float_no_whole : (sign : Bool) (p : Parts) (b : Bool) → float_is_finite (nearest binary64 sign p) ≡ b → option_and_then as_u64 (float_of sign p) ≡ None
float_no_whole sign p false e = rw e refl
float_no_whole sign p true e = rw e refl

negative_no_whole : (p : Parts) (b : Bool) (x : Num) (o : Option Num) → as_u64 x ≡ None → option_and_then as_u64 o ≡ None → option_and_then as_u64 (cond b (Some x) o) ≡ None
negative_no_whole p true x o e f = e
negative_no_whole p false x o e f = f

-- a number with a sign is none
pub no_whole : (s : List ℕ) → (get_or s 0 0 == 45) ≡ true → whole_of s ≡ None
unfolding number_of
no_whole s signed =
    let p = scan (drop 1 s) in
    rw signed (negative_no_whole p _ _ (float_of true p) refl (float_no_whole true p _ refl))

integer_fits : (p : Parts) → (is_integer p && nat_lt (digits_of p) (2 ^ 64)) ≡ true → IsInteger p × (digits_of p < 2 ^ 64)
integer_fits p e =
    let outer = and_parts (is_integer p) (nat_lt (digits_of p) (2 ^ 64)) e in
    let inner = and_parts (nat_lt 0 (length p.whole) && not p.point) (length p.exponent == 0) outer.0 in
    let first = and_parts (nat_lt 0 (length p.whole)) (not p.point) inner.0 in
    ((grind (arith, nat_tests), not-true p.point first.1, grind (arith, nat_tests)), grind (arith, nat_tests))

fits_integer : (p : Parts) → IsInteger p → digits_of p < 2 ^ 64 → (is_integer p && nat_lt (digits_of p) (2 ^ 64)) ≡ true
fits_integer p h less =
    let some : nat_lt 0 (length p.whole) ≡ true = grind (arith, nat_tests) in
    let none : (length p.exponent == 0) ≡ true = grind (arith, nat_tests) in
    let fits : nat_lt (digits_of p) (2 ^ 64) ≡ true = grind (arith, nat_tests) in
    rw (some, h.1, none, fits)

by_test : (p : Parts) (r : Option ℕ) → SomeIff r (IsInteger p × (digits_of p < 2 ^ 64)) (digits_of p) → (b : Bool) → (is_integer p && nat_lt (digits_of p) (2 ^ 64)) ≡ b → r ≡ option_and_then as_u64 (number_from false p)
by_test p None is true e = absurd (is (integer_fits p e))
by_test p None is false e = rw e (sym (float_no_whole false p _ refl))
by_test p (Some x) is true e = rw e (ap (λ n. Some n) is.1)
by_test p (Some x) is false e = absurd (let yes = fits_integer p is.0.0 is.0.1 in cc)

whole_from_parts : (p : Parts) (r : Option ℕ) → SomeIff r (IsInteger p × (digits_of p < 2 ^ 64)) (digits_of p) → r ≡ option_and_then as_u64 (number_from false p)
whole_from_parts p r is = by_test p r is (is_integer p && nat_lt (digits_of p) (2 ^ 64)) refl

pub whole_from : (s : List ℕ) → (get_or s 0 0 == 45) ≡ false → (p : Parts) (r : Option ℕ) → p ≡ scan s → SomeIff r (IsInteger p × (digits_of p < 2 ^ 64)) (digits_of p) → r ≡ whole_of s
unfolding number_of
whole_from s plain p r e is = whole_from_parts p r is ∙ (ap (λ q. option_and_then as_u64 (number_from false q)) e ∙ rw plain refl)
