-- Fixed-point numbers in thousandths: rounding, clamping, and how one is written.
use Rattle.std.specs.Prelude.{◌≡◌, ℕ, suc, ◌+◌, ◌*◌, ◌/◌, ◌%◌, ◌<◌, ◌≤◌, ℤ, pos, negsuc, neg_ℤ, ◌-ℤ◌, ◌*ℤ◌, ◌≤ℤ◌}
use Rattle.std.specs.Prelude.{unsigned_abs, List, [], ◌∷◌, ◌++◌, map, codes, decimal, if◌then◌else◌, ◌==◌}
use Rattle.std.specs.Int.{int_max, int_min}

-- the greatest number of thousandths
abbrev pub most : ℕ
most = 2_000_000_000_000

-- the number lies within the range on either side of 0
pub record IsInRange (z : ℤ) : Type 0 where
  pub low : neg_ℤ (pos most) ≤ℤ z
  pub high : z ≤ℤ pos most

-- the number of the range that is nearest to z
abbrev pub clamped : ℤ → ℤ
clamped z = int_max (neg_ℤ (pos most)) (int_min z (pos most))

-- n parts of d as a whole number: the nearest, and the greater one of two
abbrev pub half_up : ℕ → ℕ → ℕ
half_up n d = (2 * n + d) / (2 * d)

-- z parts of d as a whole number: the nearest, and of two the one farther from 0
abbrev pub rounded : ℤ → ℕ → ℤ
rounded (pos n) d = pos (half_up n d)
rounded (negsuc n) d = neg_ℤ (pos (half_up (suc n) d))

-- r is the whole number nearest to z parts of d, and farther from 0 than they are where they lie halfway
pub record IsNearest (z : ℤ) (d : ℕ) (r : ℤ) : Type 0 where
  pub near : 2 * unsigned_abs (z -ℤ (r *ℤ pos d)) ≤ d
  pub away : 2 * unsigned_abs (z -ℤ (r *ℤ pos d)) ≡ d → unsigned_abs z < unsigned_abs (r *ℤ pos d)

-- a digit before others; a 0 before none is left out
abbrev pub put_digit : ℕ → List ℕ → List ℕ
put_digit d [] = if d == 0 then [] else d ∷ []
put_digit d (e ∷ es) = d ∷ e ∷ es

-- the digits without the zeros at the end
abbrev pub without_zeros : List ℕ → List ℕ
without_zeros [] = []
without_zeros (d ∷ ds) = put_digit d (without_zeros ds)

-- digits after a point, where there are any
abbrev pub pointed : List ℕ → List ℕ
pointed [] = []
pointed (d ∷ ds) = codes "." ++ map (λ x. 48 + x) (d ∷ ds)

-- n thousandths: the whole part, and up to three digits after the point
abbrev pub spelled : ℕ → List ℕ
spelled n = decimal (n / 1000) ++ pointed (without_zeros (n / 100 % 10 ∷ n / 10 % 10 ∷ n % 10 ∷ []))

-- z thousandths as they are printed
abbrev pub printed_number : ℤ → List ℕ
printed_number (pos n) = spelled n
printed_number (negsuc n) = codes "-" ++ spelled (suc n)
