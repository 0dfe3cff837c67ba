-- The size of a number by its parts.
use Rattle.std.specs.Prelude.{ℕ, ◌+◌, ◌-◌, ◌*◌, ◌^◌, ◌≤◌, nat_le, Bool, ◌++◌, length, take, drop}
use Rattle.base_model.specs.Ascii.{digit_zero, digit_nine}
use Rattle.base_model.specs.Text.{Characters}
use Rattle.base_model.specs.Thousandths.{half_up}
use Rattle.syntax_model.specs.Numbers.{decimal_number}
use Rattle.syntax_model.specs.TextUnits.{one_if}

-- more than any number of thousandths that a value has
abbrev pub many : ℕ
many = 10_000_000_000_000

-- more places than any text has characters
abbrev pub far : ℕ
far = 100_000_000_000_000_000_000

-- a character that is a digit
pub record IsDigit (c : ℕ) : Type 0 where
  pub low : digit_zero ≤ c
  pub high : c ≤ digit_nine

-- a digit from `5` up
abbrev pub is_half : ℕ → Bool
is_half c = nat_le 53 c

-- The number that so many of the digits are, with zeros where there are too few, rounded by the first that is left out.
abbrev pub front_of : Characters → ℕ → ℕ
front_of digits kept =
    (decimal_number 0 (take kept digits) + one_if is_half (drop kept digits)) * 10 ^ (kept - length digits)

-- The thousandths of a number with these digits before and after the point, which the exponent moves by so many places
-- to the left and to the right.
abbrev pub size_of : Characters → Characters → ℕ → ℕ → ℕ
size_of whole fraction raised lowered =
    half_up (decimal_number 0 (whole ++ fraction) * 1000 * 10 ^ raised) (10 ^ (length fraction + lowered))
