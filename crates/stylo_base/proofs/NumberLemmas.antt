-- Numbers in decimal digits: how many bytes they have, and that they are in ASCII.
use Rattle.std.proofs.Common.{◌≡◌, ℕ, ◌+◌, ◌/◌, ◌%◌, ◌<◌, ◌≤◌, ◌^◌, ◌==◌, ℤ, pos, negsuc, suc, unsigned_abs, Bool, true, false, if◌then◌else◌, List, [], ◌∷◌, map, length, decimal, ap, ◌∙◌, arith, length-append, take_all, length-drop, drop, take, ◌-◌}
use Rattle.std.specs.List.{AllByRecursion}
use Rattle.std.specs.Str.{IsAscii}
use Rattle.std.proofs.lemmas.Fmt.{decimal_digit, decimal_step, IsAscii-decimal}
use Rattle.std.proofs.lemmas.Str.{IsAscii-append}
use Rattle.std.proofs.lemmas.Str.Ascii.{IsAscii-nil, IsAscii-cons}
use Rattle.base_model.specs.Thousandths.{pointed, put_digit, spelled, without_zeros, printed_number}

pub length_one : (n : ℕ) → n < 10 → length (decimal n) ≡ 1
length_one n h = ap length (decimal_digit n h)

pub length_step : (n : ℕ) → 10 ≤ n → n < 2 ^ 64 → length (decimal n) ≡ length (decimal (n / 10)) + 1
length_step n lo hi = ap length (decimal_step n lo hi) ∙ length-append _ _

abbrev AreDigits : List ℕ → Type 0
AreDigits digits = AllByRecursion (λ d. d < 10) digits

put_alone : (d : ℕ) (is_zero : Bool) → d < 10 → AreDigits (if is_zero then [] else d ∷ [])
put_alone d true h = tt
put_alone d false h = (h, tt)

put-AreDigits : (d : ℕ) (ds : List ℕ) → d < 10 → AreDigits ds → AreDigits (put_digit d ds)
put-AreDigits d [] h all = put_alone d (d == 0) h
put-AreDigits d (e ∷ es) h all = (h, all)

without_zeros-AreDigits : (ds : List ℕ) → AreDigits ds → AreDigits (without_zeros ds)
without_zeros-AreDigits [] all = tt
without_zeros-AreDigits (d ∷ ds) all = put-AreDigits d (without_zeros ds) all.0 (without_zeros-AreDigits ds all.1)

digits-IsAscii : (ds : List ℕ) → AreDigits ds → IsAscii (map (λ x. 48 + x) ds)
digits-IsAscii [] all = IsAscii-nil
digits-IsAscii (d ∷ ds) all =
    let below : d < 10 = all.0 in
    IsAscii-cons (48 + d) (map (λ x. 48 + x) ds) (omega (arith, below)) (digits-IsAscii ds all.1)

pointed-IsAscii : (ds : List ℕ) → AreDigits ds → IsAscii (pointed ds)
pointed-IsAscii [] all = IsAscii-nil
pointed-IsAscii (d ∷ ds) all = IsAscii-cons 46 (map (λ x. 48 + x) (d ∷ ds)) (omega arith) (digits-IsAscii (d ∷ ds) all)

spelled-IsAscii : (n : ℕ) → n < 2 ^ 64 → IsAscii (spelled n)
spelled-IsAscii n h =
    let digits : List ℕ = n / 100 % 10 ∷ n / 10 % 10 ∷ n % 10 ∷ [] in
    IsAscii-append (decimal (n / 1000)) (pointed (without_zeros digits)) (IsAscii-decimal (n / 1000) (omega (arith, h))) (pointed-IsAscii (without_zeros digits) (without_zeros-AreDigits digits (omega arith, (omega arith, (omega arith, tt)))))

-- a number as it is printed is in ASCII
pub printed_number-IsAscii : (z : ℤ) → unsigned_abs z < 2 ^ 64 → IsAscii (printed_number z)
printed_number-IsAscii (pos n) h = spelled-IsAscii n h
printed_number-IsAscii (negsuc n) h = IsAscii-cons 45 (spelled (suc n)) (omega arith) (spelled-IsAscii (suc n) h)

-- the rest of a buffer, taken whole
pub rest_is : (buffer text : List ℕ) (start : ℕ) → length buffer ≡ 32 → drop start buffer ≡ text → take (32 - start) (drop start buffer) ≡ text
rest_is buffer text start long is = take_all (32 - start) (drop start buffer) (omega (arith, long, length-drop start buffer)) ∙ is
