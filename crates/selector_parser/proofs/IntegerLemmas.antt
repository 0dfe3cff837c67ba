-- The size of digits as it is counted, with an upper bound.
use Rattle.std.proofs.Common.{◌≡◌, ℕ, ◌+◌, ◌-◌, ◌*◌, ◌<◌, ◌≤◌, min, ◌∷◌, length, drop, get_or, refl, sym, ap, ◌∙◌, arith}
use Rattle.std.proofs.lemmas.List.{drop_all, drop_more}
use Rattle.base_model.specs.Ascii.{digit_zero}
use Rattle.base_model.specs.Text.{Characters}
use Rattle.syntax_model.specs.Numbers.{decimal_number}
use Rattle.sheet_model.specs.AnPlusB.{greatest_index, size_of}

-- the size is that of the digits before, and what is left makes the number whole
pub record IsSizeSoFar (digits : Characters) (i : ℕ) (size : ℕ) : Type 0 where
  pub number : ℕ
  pub bounded : size ≡ min greatest_index number
  pub rest : decimal_number number (drop i digits) ≡ decimal_number 0 digits

pub size_none : (digits : Characters) → IsSizeSoFar digits 0 0
size_none digits = record { number = 0; bounded = refl; rest = refl }

pub size_small : (digits : Characters) (i size : ℕ) → IsSizeSoFar digits i size → size ≤ greatest_index
size_small digits i size h = omega (arith, h.bounded)

pub size_more : (digits : Characters) (i size new c : ℕ) → IsSizeSoFar digits i size → i < length digits → c ≡ get_or digits i c → new ≡ min greatest_index (10 * size + (c - digit_zero)) → IsSizeSoFar digits (i + 1) new
size_more digits i size new c h inside is next = record {
  number = 10 * h.number + (c - digit_zero);
  bounded = omega (arith, next, h.bounded);
  rest = sym (ap (decimal_number h.number) (drop_more digits i c inside ∙ ap (λ d. d ∷ drop (i + 1) digits) (sym is))) ∙ h.rest;
}

pub size_all : (digits : Characters) (i size : ℕ) → IsSizeSoFar digits i size → i ≡ length digits → size ≡ size_of digits
size_all digits i size h all =
    h.bounded ∙ ap (min greatest_index) (sym (ap (decimal_number h.number) (drop_all i digits (omega (arith, all)))) ∙ h.rest)
