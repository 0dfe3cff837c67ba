-- The number that a text begins with is one number alone.
use Rattle.std.proofs.Common.{◌≡◌, ℕ, zero, suc, ◌+◌, ◌<◌, ◌≤◌, Bool, true, false, cond, eqb, [], ◌∷◌, take, drop, refl, sym, ap, ◌∙◌, arith, inl, inr}
use Rattle.std.specs.Prelude.{◌&&◌, not}
use Rattle.std.specs.List.{prefix_len}
use Rattle.std.proofs.lemmas.Bool.{and_cases, and_from, and_left, and_parts, and_right, cases_Bool, cond-false, cond-true, eq-eqb, false≢true, or_left, or_right}
use Rattle.std.proofs.lemmas.List.{drop-drop, drop-take, length-take-le}
use Rattle.base_model.specs.Text.{Characters}
use Rattle.syntax_model.specs.Letters.{begins, is_digit, is_e}
use Rattle.syntax_model.specs.Numbers.{after_fraction, after_sign, after_whole, digits_len, exponent_len, fraction_len, is_integer, number_len, sign_len, starts_fraction, starts_number}
use Rattle.syntax_model.specs.Numbers.{starts_unsigned}
use Rattle.syntax_model.specs.Written.{is_number, is_number_as}
use Rattle.syntax_model.proofs.PieceLemmas.{number_inside, unsigned_some}

-- the beginning of a text begins as the text
begins_take : (p : ℕ → Bool) (n : ℕ) (text : Characters) → 0 < n → begins p (take n text) ≡ begins p text
begins_take p zero text some = absurd (omega (arith, some))
begins_take p (suc n) [] some = refl
begins_take p (suc n) (c ∷ cs) some = refl

begins_no_more : (p : ℕ → Bool) (n : ℕ) (text : Characters) → begins p text ≡ false → begins p (take n text) ≡ false
begins_no_more p zero text h = refl
begins_no_more p (suc n) text h = begins_take p (suc n) text (omega arith) ∙ h

prefix_take : (p : ℕ → Bool) (n : ℕ) (text : Characters) → prefix_len p text ≤ n → prefix_len p (take n text) ≡ prefix_len p text
prefix_take p zero [] h = refl
prefix_take p (suc n) [] h = refl
prefix_take p zero (c ∷ cs) h = omega (arith, h)
prefix_take p (suc n) (c ∷ cs) h =
    elim (cases_Bool (p c)) [
      | inl e ↦ rw e (ap (λ k. 1 + k) (prefix_take p n cs (omega (arith, rw e at h))))
      | inr e ↦ rw e
    ]

sign_take : (n : ℕ) (text : Characters) → sign_len text ≤ n → sign_len (take n text) ≡ sign_len text
sign_take zero [] h = refl
sign_take (suc n) [] h = refl
sign_take zero (c ∷ cs) h = omega (arith, h)
sign_take (suc n) (c ∷ cs) h = refl

-- a digit at the beginning is counted
digits_some : (text : Characters) → begins is_digit text ≡ true → 0 < digits_len text
digits_some [] h = absurd (false≢true h)
digits_some (c ∷ cs) h = omega (arith, cond-true (is_digit c) (1 + digits_len cs) 0 h)

fraction_take : (n : ℕ) (text : Characters) → fraction_len text ≤ n → fraction_len (take n text) ≡ fraction_len text
fraction_take zero [] h = refl
fraction_take (suc n) [] h = refl
fraction_take zero (c ∷ cs) h = omega (arith, h)
fraction_take (suc n) (c ∷ cs) h =
    elim (cases_Bool (starts_fraction (c ∷ cs))) [
      | inl e ↦
          let inside : digits_len cs ≤ n = omega (arith, h, cond-true (starts_fraction (c ∷ cs)) (1 + digits_len cs) 0 e) in
          let some : 0 < digits_len cs = digits_some cs (and_parts (eqb c 46) _ e).1 in
          rw (begins_take is_digit n cs (omega (arith, inside, some)), prefix_take is_digit n cs inside)
      | inr e ↦
          let none = λ (k : begins is_digit cs ≡ false). and_right (eqb c 46) _ (begins_no_more is_digit n cs k) in
          cond-false (starts_fraction (c ∷ take n cs)) _ _ (elim (and_cases (eqb c 46) _ e) [ inl k ↦ and_left _ _ k | inr k ↦ none k ])
          ∙ sym (cond-false (starts_fraction (c ∷ cs)) (1 + digits_len cs) 0 e)
    ]

-- an exponent by its first character, its sign, and what is after that
exponent_of : ℕ → ℕ → Characters → ℕ
exponent_of c sign text = cond (is_e c && begins is_digit text) (1 + sign + digits_len text) 0

exponent_is : (c : ℕ) (cs : Characters) → exponent_len (c ∷ cs) ≡ exponent_of c (sign_len cs) (after_sign cs)
unfolding exponent_of
exponent_is c cs = ap (λ (x : Characters). cond (is_e c && begins is_digit x) (1 + sign_len cs + digits_len x) 0) (sym (drop-drop (sign_len cs) 1 (c ∷ cs)))

-- a text that begins another has the same part first, and begins what is left of it
record IsTaken (len : Characters → ℕ) (part text : Characters) (k : ℕ) : Type 0 where
  size : len part ≡ len text
  left : drop (len part) part ≡ take k (drop (len text) text)

taken : (len : Characters → ℕ) (part text : Characters) (k : ℕ) → part ≡ take (len text + k) text → len (take (len text + k) text) ≡ len text → IsTaken len part text k
taken len part text k is same = record {
  size = ap len is ∙ same;
  left = rw (is, same) (drop-take (len text) k text);
}

-- the sign and the digits of an exponent
abbrev counted : Characters → ℕ
counted text = sign_len text + digits_len (after_sign text)

exponent_alone : (c : ℕ) (cs : Characters) → (is_e c && begins is_digit (after_sign cs)) ≡ true → exponent_len (c ∷ take (counted cs) cs) ≡ suc (counted cs)
unfolding exponent_of
exponent_alone c cs e =
    let digits : ℕ = digits_len (after_sign cs) in
    let some : 0 < digits = digits_some (after_sign cs) (and_parts (is_e c) _ e).1 in
    let sign = taken sign_len (take (counted cs) cs) cs digits refl (sign_take (counted cs) cs (omega arith)) in
    exponent_is c (take (counted cs) cs)
    ∙ rw (sign.left, begins_take is_digit digits (after_sign cs) some, e, sign.size, prefix_take is_digit digits (after_sign cs) (omega arith)) (omega arith)

exponent_take : (text : Characters) → exponent_len (take (exponent_len text) text) ≡ exponent_len text
unfolding exponent_of
exponent_take [] = refl
exponent_take (c ∷ cs) =
    elim (cases_Bool (is_e c && begins is_digit (after_sign cs))) [
      | inl e ↦
          let size : exponent_len (c ∷ cs) ≡ suc (counted cs) = exponent_is c cs ∙ rw e (omega arith) in
          rw size (exponent_alone c cs e)
      | inr e ↦
          let none : exponent_len (c ∷ cs) ≡ 0 = exponent_is c cs ∙ rw e in
          rw none
    ]

-- digits or a point and digits begin an unsigned number
no_digits : (text : Characters) → begins is_digit text ≡ false → digits_len text ≡ 0
no_digits [] h = refl
no_digits (c ∷ cs) h = cond-false (is_digit c) _ _ h

fraction_starts : (text : Characters) → 0 < fraction_len text → starts_fraction text ≡ true
fraction_starts text some = elim (cases_Bool (starts_fraction text)) [ inl k ↦ k | inr k ↦ absurd (omega (arith, rw k at some)) ]

unsigned_from : (text : Characters) → 0 < digits_len text + fraction_len (drop (digits_len text) text) → starts_unsigned text ≡ true
unsigned_from text some =
    elim (cases_Bool (begins is_digit text)) [
      | inl e ↦ or_left _ _ e
      | inr e ↦ or_right (begins is_digit text) _ (fraction_starts text (omega (arith, rw (no_digits text e) at some)))
    ]

-- a number, without what is after it
pub record IsSpelling (text : Characters) : Type 0 where
  pub number : is_number (take (number_len text) text) ≡ true
  pub integer : is_integer (take (number_len text) text) ≡ is_integer text

pub number_alone : (text : Characters) → starts_number text ≡ true → IsSpelling text
number_alone text starts =
    let exponent : ℕ = exponent_len (after_fraction text) in
    let after_digits : ℕ = fraction_len (after_whole text) + exponent in
    let after : ℕ = digits_len (after_sign text) + after_digits in
    let n : ℕ = number_len text in
    let alone : Characters = take n text in
    let n_is : n ≡ sign_len text + after = omega arith in
    let sign = taken sign_len alone text after (ap (λ m. take m text) n_is) (sign_take (sign_len text + after) text (omega arith)) in
    let whole = taken digits_len (after_sign alone) (after_sign text) after_digits sign.left (prefix_take is_digit after (after_sign text) (omega arith)) in
    let point = taken fraction_len (after_whole alone) (after_whole text) exponent whole.left (fraction_take after_digits (after_whole text) (omega arith)) in
    let same : exponent_len (after_fraction alone) ≡ exponent = ap exponent_len point.left ∙ exponent_take (after_fraction text) in
    let some = unsigned_from (after_sign alone) (omega (arith, whole.size, point.size, unsigned_some (after_sign text) starts)) in
    record {
      number = and_from _ _ some (eq-eqb _ _ (omega (arith, sign.size, whole.size, point.size, same, length-take-le n text (number_inside text))));
      integer =
          ap (λ k. eqb k 0 && eqb (exponent_len (after_fraction alone)) 0) point.size
          ∙ ap (λ k. eqb (fraction_len (after_whole text)) 0 && eqb k 0) same;
    }

-- the spelling of what a number begins, as an integer or not
pub spelling_as : (text : Characters) → starts_number text ≡ true → is_number_as (is_integer text) (take (number_len text) text) ≡ true
spelling_as text starts = and_from _ _ (number_alone text starts).number (same (is_integer text) _ (number_alone text starts).integer)
  where
    same : (b d : Bool) → d ≡ b → cond b d (not d) ≡ true
    same true d e = e
    same false d e = ap not e
