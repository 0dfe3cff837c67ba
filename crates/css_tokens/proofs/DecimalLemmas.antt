-- Digits before and after a point: the number that they are, where it is capped, and how it rounds.
use Rattle.std.proofs.Common.{◌≡◌, ℕ, zero, suc, ◌+◌, ◌-◌, ◌*◌, ◌^◌, ◌<◌, ◌≤◌, Bool, true, false, leb, min, [], ◌∷◌, ◌++◌, length, take, drop, get_or, refl, sym, ap, ◌∙◌, arith, pos, neg_ℤ, inl, inr, append-nil, length-append, length-drop}
use Rattle.std.specs.List.{All}
use Rattle.std.specs.Prelude.{if◌then◌else◌}
use Rattle.std.proofs.Math.Nat.{mul-div-mul_right, one-le-pow, pow-le-pow_right, pow-suc}
use Rattle.std.proofs.Math.Numerals.{one-add}
use Rattle.std.proofs.Math.Seq.{drop-append-add, take-append-add}
use Rattle.std.proofs.lemmas.Bool.{cases_lt, cond_both, cond-false, cond-true}
use Rattle.std.proofs.lemmas.Bool.Decides.{nat_tests}
use Rattle.std.proofs.lemmas.Int.{clamps, ints}
use Rattle.std.proofs.lemmas.List.{drop_all, drop_more, drop-append-le, length-take, take_all, take-append-drop, take-append-le}
use Rattle.std.proofs.lemmas.List.Elements.{All-append, All-cons, All-drop, All-head, All-nil, All-tail}
use Rattle.std.proofs.lemmas.Nat.{div_below, le-div, mul-le, pow-add}
use Rattle.base_model.specs.Text.{Characters}
use Rattle.base_model.specs.Thousandths.{clamped, half_up}
use Rattle.syntax_model.specs.Numbers.{all_digits, decimal_number, digits_len, fraction_digits, fraction_len, is_minus, lowered, raised, starts_fraction, thousandths}
use Rattle.syntax_model.specs.TextUnits.{one_if}
use Rattle.syntax_model.specs.Letters.{is_digit}
use Rattle.css_tokens.specs.Decimal.{IsDigit, far, front_of, is_half, many, size_of}

-- digits after others make no number smaller
number_grows : (v : ℕ) (ds : Characters) → v ≤ decimal_number v ds
number_grows v [] = omega arith
number_grows v (c ∷ cs) = omega (arith, number_grows (10 * v + (c - 48)) cs)

-- what is past a cap stays past it
pub number_capped : (most v : ℕ) (ds : Characters) → min most (decimal_number (min most v) ds) ≡ min most (decimal_number v ds)
number_capped most v ds =
    elim (cases_lt most v) [
      | inl over ↦
          let e : min most v ≡ most = omega arith in
          rw e (omega (arith, number_grows most ds, number_grows v ds))
      | inr within ↦
          let e : min most v ≡ v = omega arith in
          rw e refl
    ]

pub number_append : (v : ℕ) (xs ys : Characters) → decimal_number v (xs ++ ys) ≡ decimal_number (decimal_number v xs) ys
number_append v [] ys = refl
number_append v (c ∷ cs) ys = number_append (10 * v + (c - 48)) cs ys

number_shifted : (v : ℕ) (ds : Characters) → decimal_number v ds ≡ v * 10 ^ length ds + decimal_number 0 ds
number_shifted v [] = omega arith
number_shifted v (c ∷ cs) =
    rw (pow-suc 10 (length cs)) (by (10 ^ length cs) _ _ _ (number_shifted (10 * v + (c - 48)) cs) (number_shifted (10 * 0 + (c - 48)) cs))
  where
    by : (p a b n : ℕ) → a ≡ (10 * v + (c - 48)) * p + n → b ≡ (10 * 0 + (c - 48)) * p + n → a ≡ v * (p * 10) + b
    by p a b n e f = grind arith

number_below : (ds : Characters) → All IsDigit ds → decimal_number 0 ds < 10 ^ length ds
number_below [] digits = omega arith
number_below (c ∷ cs) digits =
    rw (pow-suc 10 (length cs)) (by (10 ^ length cs) _ (c - 48) _ (number_shifted (10 * 0 + (c - 48)) cs) (omega (arith, (All-head IsDigit c cs digits).high)) (number_below cs (All-tail IsDigit c cs digits)))
  where
    by : (p a d n : ℕ) → a ≡ (10 * 0 + d) * p + n → d ≤ 9 → n < p → a < p * 10
    by p a d n e small below = omega (arith, mul-le d p 9 p small (omega arith))

-- the number that lies nearest, and above where two do
half_up_is : (n d q : ℕ) → 0 < d → 2 * (q * d) ≤ 2 * n + d → 2 * n < 2 * (q * d) + d → half_up n d ≡ q
half_up_is n d q h low high =
    let above : q ≤ half_up n d = le-div q (2 * n + d) (2 * d) (omega arith) (omega arith) in
    let below : half_up n d < q + 1 = div_below (2 * n + d) (2 * d) (q + 1) (omega arith) (omega arith) in
    omega (arith, above, below)

half_up_same : (n d k : ℕ) → 0 < k → half_up (n * k) (d * k) ≡ half_up n d
half_up_same n d k h =
    let top : 2 * (n * k) + d * k ≡ (2 * n + d) * k = omega arith in
    let bottom : 2 * (d * k) ≡ (2 * d) * k = omega arith in
    rw (top, bottom) (mul-div-mul_right (2 * n + d) (2 * d) h)

ten_pos : (n : ℕ) → 0 < 10 ^ n
ten_pos n = omega (arith, one-le-pow n 10 (omega arith))

-- digits that are left out round by the first of them
rounds : (n : ℕ) (ds : Characters) → All IsDigit ds → half_up (n * 10 ^ length ds + decimal_number 0 ds) (10 ^ length ds) ≡ n + one_if is_half ds
rounds n [] digits = half_up_is _ 1 _ (omega arith) (omega arith) (omega arith)
rounds n (c ∷ cs) digits =
    rw (pow-suc 10 (length cs)) (by (10 ^ length cs) _ _ (ten_pos (length cs)) (number_shifted (10 * 0 + (c - 48)) cs) (number_below cs (All-tail IsDigit c cs digits)) (leb 53 c) refl)
  where
    by : (p a r : ℕ) → 0 < p → a ≡ (10 * 0 + (c - 48)) * p + r → r < p → (b : Bool) → leb 53 c ≡ b → half_up (n * (p * 10) + a) (p * 10) ≡ n + one_if is_half (c ∷ cs)
    by p a r h e below true half =
        let most : c - 48 ≤ 9 = omega (arith, (All-head IsDigit c cs digits).high) in
        let least : 5 ≤ c - 48 = grind (arith, nat_tests) in
        half_up_is _ _ (n + 1) (omega arith) (omega (arith, mul-le 5 p (c - 48) p least (omega arith))) (omega (arith, mul-le (c - 48) p 9 p most (omega arith)))
        ∙ ap (λ k. n + k) (sym (cond-true (leb 53 c) 1 0 half))
    by p a r h e below false half =
        let most : c - 48 ≤ 4 = grind (arith, nat_tests) in
        half_up_is _ _ (n + 0) (omega arith) (omega arith) (omega (arith, mul-le (c - 48) p 4 p most (omega arith)))
        ∙ ap (λ k. n + k) (sym (cond-false (leb 53 c) 1 0 half))

thousand : (n up : ℕ) → n * 1000 * 10 ^ up ≡ n * 10 ^ (3 + up)
thousand n up = rw (pow-add 10 3 up) (omega arith)

-- with more zeros than places after the point
size_zeros : (whole fraction : Characters) (up down x : ℕ) → 3 + up ≡ length fraction + down + x → size_of whole fraction up down ≡ decimal_number 0 (whole ++ fraction) * 10 ^ x
size_zeros whole fraction up down x e =
    rw (thousand (decimal_number 0 (whole ++ fraction)) up, e, pow-add 10 (length fraction + down) x) (by _ (10 ^ (length fraction + down)) (10 ^ x) (ten_pos (length fraction + down)))
  where
    by : (n d p : ℕ) → 0 < d → half_up (n * (d * p)) d ≡ n * p
    by n d p h = half_up_is (n * (d * p)) d (n * p) h (omega arith) (omega arith)

-- where digits are left out
size_cut : (ds : Characters) (up places kept : ℕ) → All IsDigit ds → kept ≤ length ds → places ≡ (length ds - kept) + (3 + up) → half_up (decimal_number 0 ds * 1000 * 10 ^ up) (10 ^ places) ≡ front_of ds kept
size_cut ds up places kept digits inside e =
    let front : Characters = take kept ds in
    let rest : Characters = drop kept ds in
    let split : decimal_number 0 ds ≡ decimal_number 0 front * 10 ^ length rest + decimal_number 0 rest =
    ap (decimal_number 0) (sym (take-append-drop kept ds)) ∙ (number_append 0 front rest ∙ number_shifted (decimal_number 0 front) rest) in
    let at : places ≡ length rest + (3 + up) = omega (arith, e, length-drop kept ds) in
    let none : kept - length ds ≡ 0 = omega (arith, inside) in
    let rounded : half_up (decimal_number 0 ds) (10 ^ length rest) ≡ decimal_number 0 front + one_if is_half rest =
    rw split (rounds (decimal_number 0 front) rest (All-drop IsDigit kept ds digits)) in
    rw (thousand (decimal_number 0 ds) up, at, pow-add 10 (length rest) (3 + up), none)
    (half_up_same (decimal_number 0 ds) (10 ^ length rest) (10 ^ (3 + up)) (ten_pos (3 + up)) ∙ (rounded ∙ omega arith))

-- where the point stands after so many digits
pub size_is : (whole fraction : Characters) (up down kept : ℕ) → All IsDigit whole → All IsDigit fraction → length whole + 3 + up ≡ kept + down → size_of whole fraction up down ≡ front_of (whole ++ fraction) kept
size_is whole fraction up down kept first second e =
    let ds : Characters = whole ++ fraction in
    let size : length ds ≡ length whole + length fraction = length-append whole fraction in
    elim (cases_lt (length ds) kept) [
      | inl past ↦
          let le : length ds ≤ kept = omega (arith, past) in
          rw (take_all kept ds le, drop_all kept ds le)
          (size_zeros whole fraction up down (kept - length ds) (omega (arith, size, past, e)) ∙ omega arith)
      | inr inside ↦
          size_cut ds up (length fraction + down) kept (All-append IsDigit whole fraction first second) inside (omega (arith, size, inside, e))
    ]

-- where it stands before all digits, and one place more
pub size_none : (whole fraction : Characters) (up down : ℕ) → All IsDigit whole → All IsDigit fraction → length whole + 3 + up < down → size_of whole fraction up down ≡ 0
size_none whole fraction up down first second e =
    let ds : Characters = whole ++ fraction in
    let places : ℕ = length fraction + down in
    let size : length ds ≡ length whole + length fraction = length-append whole fraction in
    let far_down : 10 ^ suc (length ds + (3 + up)) ≤ 10 ^ places = pow-le-pow_right {n = 10} (omega arith) (omega (arith, size, e)) in
    rw (thousand (decimal_number 0 ds) up)
    (by (decimal_number 0 ds) (10 ^ length ds) (10 ^ (3 + up)) (10 ^ places) (number_below ds (All-append IsDigit whole fraction first second)) (ten_pos (3 + up)) (omega (arith, far_down, pow-suc 10 (length ds + (3 + up)), pow-add 10 (length ds) (3 + up))))
  where
    by : (n p t d : ℕ) → n < p → 0 < t → p * t * 10 ≤ d → half_up (n * t) d ≡ 0
    by n p t d below h le =
        let step : suc n * t ≤ p * t = mul-le (suc n) t p t below (omega arith) in
        half_up_is (n * t) d 0 (omega (arith, step)) (omega arith) (omega (arith, step))

-- thirteen zeros after a number are enough to tell
zeros_many : (n x : ℕ) → 13 ≤ x → min many (n * 10 ^ x) ≡ min many (n * 10 ^ 13)
zeros_many n x le = by n (10 ^ x) (pow-le-pow_right {n = 10} (omega arith) le)
  where
    by : (n p : ℕ) → many ≤ p → min many (n * p) ≡ min many (n * many)
    by zero p le = omega arith
    by (suc n) p le = omega (arith, le)

-- an exponent past `far` says no more than `far`
pub size_raised : (whole fraction : Characters) (up : ℕ) → length fraction < 2 ^ 64 → min many (size_of whole fraction (min far up) 0) ≡ min many (size_of whole fraction up 0)
size_raised whole fraction up few =
    let n : ℕ = decimal_number 0 (whole ++ fraction) in
    elim (cases_lt far up) [
      | inl past ↦
          let e : min far up ≡ far = omega arith in
          rw e (ap (min many) (size_zeros whole fraction far 0 (3 + far - length fraction) (omega arith))
          ∙ (zeros_many n (3 + far - length fraction) (omega arith)
          ∙ (sym (zeros_many n (3 + up - length fraction) (omega arith))
          ∙ ap (min many) (sym (size_zeros whole fraction up 0 (3 + up - length fraction) (omega arith))))))
      | inr within ↦
          let e : min far up ≡ up = omega arith in
          rw e refl
    ]

pub size_lowered : (whole fraction : Characters) (down : ℕ) → All IsDigit whole → All IsDigit fraction → length whole < 2 ^ 64 → size_of whole fraction 0 (min far down) ≡ size_of whole fraction 0 down
size_lowered whole fraction down first second few =
    elim (cases_lt far down) [
      | inl past ↦
          let e : min far down ≡ far = omega arith in
          rw e (size_none whole fraction 0 far first second (omega arith) ∙ sym (size_none whole fraction 0 down first second (omega arith)))
      | inr within ↦
          let e : min far down ≡ down = omega arith in
          rw e refl
    ]

-- the digits that are kept, and those that are left out, part by part
take_over : (n : ℕ) (xs ys : Characters) → take n (xs ++ ys) ≡ take n xs ++ take (n - length xs) ys
take_over n xs ys =
    elim (cases_lt (length xs) n) [
      | inl past ↦
          let e : n ≡ length xs + (n - length xs) = omega (arith, past) in
          let le : length xs ≤ n = omega (arith, past) in
          rw (take_all n xs le) (ap (λ k. take k (xs ++ ys)) e ∙ take-append-add xs ys (n - length xs))
      | inr inside ↦
          let e : n - length xs ≡ 0 = omega (arith, inside) in
          rw e (take-append-le n xs ys inside ∙ sym (append-nil (take n xs)))
    ]

drop_over : (n : ℕ) (xs ys : Characters) → drop n (xs ++ ys) ≡ drop n xs ++ drop (n - length xs) ys
drop_over n xs ys =
    elim (cases_lt (length xs) n) [
      | inl past ↦
          let e : n ≡ length xs + (n - length xs) = omega (arith, past) in
          let le : length xs ≤ n = omega (arith, past) in
          rw (drop_all n xs le) (ap (λ k. drop k (xs ++ ys)) e ∙ drop-append-add xs ys (n - length xs))
      | inr inside ↦
          let e : n - length xs ≡ 0 = omega (arith, inside) in
          rw e (drop-append-le n xs ys inside)
    ]

take_most : (n : ℕ) (xs : Characters) → take (min (length xs) n) xs ≡ take n xs
take_most n xs =
    elim (cases_lt (length xs) n) [
      | inl past ↦ take_all _ xs (omega (arith, past)) ∙ sym (take_all n xs (omega (arith, past)))
      | inr inside ↦
          let e : min (length xs) n ≡ n = omega (arith, inside) in
          rw e refl
    ]

drop_most : (n : ℕ) (xs : Characters) → drop (min (length xs) n) xs ≡ drop n xs
drop_most n xs =
    elim (cases_lt (length xs) n) [
      | inl past ↦ drop_all _ xs (omega (arith, past)) ∙ sym (drop_all n xs (omega (arith, past)))
      | inr inside ↦
          let e : min (length xs) n ≡ n = omega (arith, inside) in
          rw e refl
    ]

-- the first characters, so many at most, and the others
pub record IsCut (xs taken left : Characters) (n : ℕ) : Type 0 where
  pub front : taken ≡ take n xs
  pub rest : left ≡ drop n xs

pub is_cut : (xs taken left : Characters) (n i : ℕ) → i ≡ min (length xs) n → taken ≡ take i xs → left ≡ drop i xs → IsCut xs taken left n
is_cut xs taken left n i at front rest = record {
  front = front ∙ (ap (λ k. take k xs) at ∙ take_most n xs);
  rest = rest ∙ (ap (λ k. drop k xs) at ∙ drop_most n xs);
}

cut_length : (xs taken left : Characters) (n : ℕ) → IsCut xs taken left n → length taken ≡ min n (length xs)
cut_length xs taken left n cut = ap length cut.front ∙ length-take n xs

capped_rise : (most n b p : ℕ) → 0 < p → min most ((min most n + b) * p) ≡ min most ((n + b) * p)
capped_rise most n b p h =
    elim (cases_lt most n) [
      | inl past ↦
          let e : min most n ≡ most = omega arith in
          rw e (omega (arith, mul-le most 1 most p (omega arith) h, mul-le most 1 n p (omega arith) h))
      | inr within ↦
          let e : min most n ≡ n = omega arith in
          rw e refl
    ]

-- the parts of the digits give the number that is kept
pub front_is : (whole fraction first rest second last : Characters) (kept number bit zeros : ℕ) → IsCut whole first rest kept → IsCut fraction second last (kept - length first) → number ≡ min many (decimal_number (min many (decimal_number 0 first)) second) → bit ≡ one_if is_half (rest ++ last) → zeros ≡ kept - length first - length second → min many ((number + bit) * 10 ^ zeros) ≡ min many (front_of (whole ++ fraction) kept)
front_is whole fraction first rest second last kept number bit zeros one two is_number is_bit is_zeros =
    let first_len = cut_length whole first rest kept one in
    let second_len = cut_length fraction second last (kept - length first) two in
    let past : kept - length first ≡ kept - length whole = omega (arith, first_len) in
    let front : take kept (whole ++ fraction) ≡ first ++ second =
    rw (take_over kept whole fraction, two.front, past, one.front) refl in
    let left : drop kept (whole ++ fraction) ≡ rest ++ last =
    rw (drop_over kept whole fraction, two.rest, past, one.rest) refl in
    let places : zeros ≡ kept - length (whole ++ fraction) = omega (arith, is_zeros, first_len, second_len, length-append whole fraction) in
    let value : number ≡ min many (decimal_number 0 (first ++ second)) =
    is_number ∙ (number_capped many (decimal_number 0 first) second ∙ ap (min many) (sym (number_append 0 first second))) in
    rw (front, left, ← places, value, is_bit) (capped_rise many (decimal_number 0 (first ++ second)) _ (10 ^ zeros) (ten_pos zeros))

-- one digit on
pub number_more : (digits : Characters) (i d most number next value : ℕ) → min most (decimal_number number (drop i digits)) ≡ value → i < length digits → d ≡ get_or digits i d → next ≡ min most (10 * number + (d - 48)) → min most (decimal_number next (drop (i + 1) digits)) ≡ value
number_more digits i d most number next value up inside is step =
    let more : drop i digits ≡ d ∷ drop (i + 1) digits = drop_more digits i d inside ∙ ap (λ c. c ∷ drop (i + 1) digits) (sym is) in
    rw step (number_capped most (10 * number + (d - 48)) (drop (i + 1) digits) ∙ (ap (λ ds. min most (decimal_number number ds)) (sym more) ∙ up))

-- one zero on
pub zero_more : (value left rest whole : ℕ) → value * 10 ^ left ≡ whole → 0 < left → rest ≡ left - 1 → value * 10 * 10 ^ rest ≡ whole
zero_more value zero rest whole e some is = absurd (omega (arith, some))
zero_more value (suc left) rest whole e some is =
    let same : rest ≡ left = omega arith in
    rw (same, ← e, pow-suc 10 left) (omega arith)

-- no zeros to come, or they change nothing
pub zeros_none : (value left : ℕ) → left ≡ 0 → min value many ≡ min many (value * 10 ^ left)
zeros_none value left e = rw e (omega arith)

pub zeros_past : (value left : ℕ) → many ≤ value → min value many ≡ min many (value * 10 ^ left)
zeros_past value left past = omega (arith, mul-le value 1 value (10 ^ left) (omega arith) (ten_pos left))

pub zeros_of_none : (value left : ℕ) → value ≡ 0 → min value many ≡ min many (value * 10 ^ left)
zeros_of_none value left e = rw e (omega arith)

-- what the code takes for digits are digits
pub whole_digits : (text : Characters) → All IsDigit (take (digits_len text) text)
whole_digits [] = All-nil IsDigit
whole_digits (c ∷ cs) =
    cond_both (is_digit c) (1 + digits_len cs) 0 (λ n. All IsDigit (take n (c ∷ cs)))
    (λ passes. rw one-add (All-cons IsDigit c (take (digits_len cs) cs) (is c passes) (whole_digits cs)))
    (λ _. All-nil IsDigit)
  where
    is : (c : ℕ) → is_digit c ≡ true → IsDigit c
    is c passes = record { low = grind (arith, nat_tests); high = grind (arith, nat_tests) }

pub fraction_is_digits : (text : Characters) → All IsDigit (drop 1 (take (fraction_len text) text))
fraction_is_digits [] = All-nil IsDigit
fraction_is_digits (c ∷ cs) =
    cond_both (starts_fraction (c ∷ cs)) (1 + digits_len cs) 0 (λ n. All IsDigit (drop 1 (take n (c ∷ cs))))
    (λ _. rw one-add (whole_digits cs))
    (λ _. All-nil IsDigit)

-- the exponent moves the digits one way alone
pub size_moved : (whole fraction : Characters) (is_lowered : Bool) (e up down : ℕ) → All IsDigit whole → All IsDigit fraction → length whole < 2 ^ 64 → length fraction < 2 ^ 64 → up ≡ min far (if is_lowered then 0 else e) → down ≡ min far (if is_lowered then e else 0) → min many (size_of whole fraction up down) ≡ min many (size_of whole fraction (if is_lowered then 0 else e) (if is_lowered then e else 0))
size_moved whole fraction true e up down first second few some is_up is_down = rw (is_up, is_down) (ap (min many) (size_lowered whole fraction e first second few))
size_moved whole fraction false e up down first second few some is_up is_down = rw (is_up, is_down) (size_raised whole fraction e some)

-- a capped number of thousandths is clamped as it is
pub clamped_capped : (is_negative : Bool) (n : ℕ) → clamped (if is_negative then neg_ℤ (pos (min many n)) else pos (min many n)) ≡ clamped (if is_negative then neg_ℤ (pos n) else pos n)
clamped_capped true n = omega (arith, ints, clamps)
clamped_capped false n = omega (arith, ints, clamps)

-- the thousandths of a text, by its parts
pub thousandths_are : (text whole fraction : Characters) (is_negative : Bool) (n : ℕ) → is_negative ≡ is_minus text → all_digits text ≡ whole ++ fraction → fraction ≡ fraction_digits text → n ≡ min many (size_of whole fraction (raised text) (lowered text)) → clamped (if is_negative then neg_ℤ (pos n) else pos n) ≡ thousandths text
unfolding thousandths
thousandths_are text whole fraction is_negative n sign digits places is =
    let size : ℕ = half_up (decimal_number 0 (all_digits text) * 1000 * 10 ^ raised text) (10 ^ (length (fraction_digits text) + lowered text)) in
    let same : size_of whole fraction (raised text) (lowered text) ≡ size =
    ap (λ ds. half_up (decimal_number 0 ds * 1000 * 10 ^ raised text) (10 ^ (length fraction + lowered text))) (sym digits)
    ∙ ap (λ ds. half_up (decimal_number 0 (all_digits text) * 1000 * 10 ^ raised text) (10 ^ (length ds + lowered text))) places in
    ap (λ k. clamped (if is_negative then neg_ℤ (pos k) else pos k)) (is ∙ ap (min many) same)
    ∙ (clamped_capped is_negative size ∙ ap (λ b. clamped (if b then neg_ℤ (pos size) else pos size)) sign)
