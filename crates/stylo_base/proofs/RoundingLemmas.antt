use Rattle.std.proofs.Common.{◌≡◌, ℕ, zero, suc, ◌+◌, ◌-◌, ◌*◌, ◌%◌, ◌<◌, ◌≤◌, ℤ, pos, negsuc, neg_ℤ, ◌-ℤ◌, ◌*ℤ◌, unsigned_abs, ap, arith, mod-lt}
use Rattle.std.proofs.lemmas.Int.{ints, clamps}
use Rattle.std.proofs.lemmas.Nat.{div-add-mod', div_below, le-div}
use Rattle.base_model.specs.Thousandths.{half_up, rounded, IsNearest, IsInRange, clamped}

-- q times d is nearest to n, and above it where n lies halfway
record NearBelow (n d q : ℕ) : Type 0 where
  low : 2 * (q * d) ≤ 2 * n + d
  high : 2 * n < 2 * (q * d) + d

-- `half_up` is so
half_up_near : (n d : ℕ) → 0 < d → NearBelow n d (half_up n d)
half_up_near n d h =
    let m = 2 * n + d in
    let whole = div-add-mod' m (2 * d) in
    let rest : m % (2 * d) < 2 * d = mod-lt m (omega arith) in
    record { low = omega (arith, whole, rest); high = omega (arith, whole, rest) }

-- and no other number is
half_up_alone : (n d q : ℕ) → 0 < d → NearBelow n d q → q ≡ half_up n d
half_up_alone n d q h near =
    let m = 2 * n + d in
    let above : q ≤ half_up n d = le-div q m (2 * d) (omega arith) (omega (arith, near.low, near.high)) in
    let below : half_up n d < q + 1 = div_below m (2 * d) (q + 1) (omega arith) (omega (arith, near.low, near.high)) in
    omega arith

-- how far two numbers are apart
abs_difference : (n m : ℕ) → unsigned_abs (pos n -ℤ pos m) ≡ (n - m) + (m - n)
abs_difference n m = omega (arith, ints)

-- the same of their negatives
neg_gap : (n q d : ℕ) → unsigned_abs (negsuc n -ℤ (neg_ℤ (pos q) *ℤ pos d)) ≡ (suc n - q * d) + (q * d - suc n)
neg_gap n zero d = omega (arith, ints)
neg_gap n (suc q) d = omega (arith, ints)

-- the size of a negative product
neg_size : (q d : ℕ) → unsigned_abs (neg_ℤ (pos q) *ℤ pos d) ≡ q * d
neg_size zero d = omega (arith, ints)
neg_size (suc q) d = omega (arith, ints)

-- `rounded` is the nearest
pub rounded-near : (z : ℤ) (d : ℕ) → 0 < d → IsNearest z d (rounded z d)
rounded-near (pos n) d h =
    let near = half_up_near n d h in
    let m = half_up n d * d in
    let gap : unsigned_abs (pos n -ℤ pos m) ≡ (n - m) + (m - n) = abs_difference n m in
    record { near = omega (arith, gap, near.low, near.high); away = λ e. omega (arith, gap, near.low, near.high) }
rounded-near (negsuc n) d h =
    let q = half_up (suc n) d in
    let near = half_up_near (suc n) d h in
    let gap = neg_gap n q d in
    let size = neg_size q d in
    record { near = omega (arith, gap, near.low, near.high); away = λ e. omega (arith, gap, size, near.low, near.high) }

-- how far a number is from a negative
opposite_gap : (n m : ℕ) → unsigned_abs (pos n -ℤ neg_ℤ (pos m)) ≡ n + m
opposite_gap n zero = omega (arith, ints)
opposite_gap n (suc m) = omega (arith, ints)

-- only 0 is nearest to a number of the other sign, and only to less than half
none_across : (n q d : ℕ) → 0 < d → 2 * (n + suc q * d) ≤ d → ⊥
none_across n q d h near = omega (arith, near)

-- what lies halfway is below the nearest
below_near : (n m d gap : ℕ) → 0 < d → gap ≡ (n - m) + (m - n) → 2 * gap ≤ d → (2 * gap ≡ d → n < m) → 2 * n < 2 * m + d
below_near n m d gap h e near away = grind arith

-- no other number is the nearest
pub rounded-alone : (z : ℤ) (d : ℕ) (r : ℤ) → 0 < d → IsNearest z d r → r ≡ rounded z d
rounded-alone (pos n) d (pos q) h near =
    let gap : unsigned_abs (pos n -ℤ pos (q * d)) ≡ (n - q * d) + (q * d - n) = abs_difference n (q * d) in
    ap pos (half_up_alone n d q h (record { low = omega (arith, gap, near.near); high = below_near n (q * d) d _ h gap near.near near.away }))
rounded-alone (pos n) d (negsuc q) h near =
    let gap = opposite_gap n (suc q * d) in
    absurd (none_across n q d h (omega (arith, gap, near.near)))
rounded-alone (negsuc n) d (pos zero) h near =
    let gap : unsigned_abs (negsuc n -ℤ pos (0 * d)) ≡ (suc n - 0 * d) + (0 * d - suc n) = omega (arith, ints) in
    ap (λ x. neg_ℤ (pos x)) (half_up_alone (suc n) d 0 h (record { low = omega arith; high = below_near (suc n) (0 * d) d _ h gap near.near near.away }))
rounded-alone (negsuc n) d (pos (suc q)) h near =
    let gap : unsigned_abs (negsuc n -ℤ pos (suc q * d)) ≡ suc n + suc q * d = omega (arith, ints) in
    absurd (none_across (suc n) q d h (omega (arith, gap, near.near)))
rounded-alone (negsuc n) d (negsuc q) h near =
    let gap = neg_gap n (suc q) d in
    let size = neg_size (suc q) d in
    ap (λ x. neg_ℤ (pos x)) (half_up_alone (suc n) d (suc q) h (record { low = omega (arith, gap, near.near); high = below_near (suc n) (suc q * d) d _ h gap near.near (λ e. omega (arith, size, near.away e)) }))

-- `clamped` lies in the range
pub clamped-in : (z : ℤ) → IsInRange (clamped z)
clamped-in z = record { low = omega (arith, ints, clamps); high = omega (arith, ints, clamps) }

-- a number of the range stays
pub clamped-same : (z : ℤ) → IsInRange z → clamped z ≡ z
clamped-same z h = omega (arith, ints, clamps)

-- no number of the range is nearer
pub clamped-near : (z w : ℤ) → IsInRange w → unsigned_abs (z -ℤ clamped z) ≤ unsigned_abs (z -ℤ w)
clamped-near z w h = omega (arith, ints, clamps)
