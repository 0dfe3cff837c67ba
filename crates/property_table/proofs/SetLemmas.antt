-- Sets of properties, by their bits.
use Rattle.std.proofs.Common.{lit<, ◌≡◌, ◌≢◌, ℕ, zero, suc, ◌+◌, ◌*◌, ◌/◌, ◌%◌, ◌^◌, ◌<◌, ◌≤◌, ◌==◌, ◌&&◌, ◌||◌, not, Bool, true, false, cond, List, [], ◌∷◌, filter, length, refl, sym, ap, ◌∙◌, ⊎_elim, arith}
use Rattle.std.specs.Int.{bit_at, bit_not, trailing_zeros, w64}
use Rattle.std.specs.Int.RustNames.{bit_and, bit_or}
use Rattle.std.specs.List.{range_with_len}
use Rattle.std.proofs.Math.Bool.{and-true}
use Rattle.std.proofs.lemmas.Bool.{and_right, cases_eq, eq-eqb, eqb-false, eqb-true, ne_eqb}
use Rattle.std.proofs.lemmas.Nat.Bits.{bit_at_and, bit_at_clear_other, bit_at_clear_same, bit_at-lt, bit_at_set_other, bit_at_set_same, bit_at-trailing_zeros, bit_at-zero, shr_and_one}
use Rattle.value_model.specs.Table.{table}
use Rattle.property_table.specs.PropertySet.{AreRowBits, has_row, rows_of_bits, rows_where, with_row, without_row}

short_table : length table < 64
unfolding table
short_table = lit< tt

-- tests that are alike on a range of rows give the same ones of it
alike_on : (p q : ℕ → Bool) (i n : ℕ) → ((row : ℕ) → i ≤ row → row < i + n → p row ≡ q row) → filter p (range_with_len i n) ≡ filter q (range_with_len i n)
alike_on p q i zero same = refl
alike_on p q i (suc n) same =
    let rest = alike_on p q (i + 1) n (λ row low high. same row (omega arith) (omega arith)) in
    ap (λ b. cond b (i ∷ filter p (range_with_len (i + 1) n)) (filter p (range_with_len (i + 1) n))) (same i (omega arith) (omega arith))
    ∙ ap (λ rows. cond (q i) (i ∷ rows) rows) rest

where_alike : (p q : ℕ → Bool) → ((row : ℕ) → row < length table → p row ≡ q row) → rows_where p ≡ rows_where q
where_alike p q same = alike_on p q 0 (length table) (λ row low high. same row (omega arith))

-- whether a row is among those of a list that pass

one_tested : (row other : ℕ) (rows : List ℕ) (test : Bool) → has_row row (cond test (other ∷ rows) rows) ≡ ((test && (row == other)) || has_row row rows)
one_tested row other rows true = refl
one_tested row other rows false = refl

both_tested : (rest test : Bool) → ((test && true) || (rest && test)) ≡ test
both_tested true true = refl
both_tested true false = refl
both_tested false true = refl
both_tested false false = refl

next_tested : (same rest test one : Bool) → (same ≡ true → one ≡ test) → ((one && same) || (rest && test)) ≡ ((same || rest) && test)
next_tested true rest test one is = rw (is refl) (both_tested rest test)
next_tested false rest test true is = refl
next_tested false rest test false is = refl

pub has_row-filter : (p : ℕ → Bool) (row : ℕ) (rows : List ℕ) → has_row row (filter p rows) ≡ (has_row row rows && p row)
has_row-filter p row [] = refl
has_row-filter p row (other ∷ rows) =
    one_tested row other (filter p rows) (p other)
    ∙ (ap (λ b. (p other && (row == other)) || b) (has_row-filter p row rows)
    ∙ next_tested (row == other) (has_row row rows) (p row) (p other) (λ e. ap p (sym (eqb-true row other e))))

has_row-range : (row i n : ℕ) → i ≤ row → row < i + n → has_row row (range_with_len i n) ≡ true
has_row-range row i zero low high = absurd (omega arith)
has_row-range row i (suc n) low high =
    elim (row == i) as (λ b. (row == i) ≡ b → (b || has_row row (range_with_len (i + 1) n)) ≡ true) [
      | true ↦ λ same. refl
      | false ↦ λ other. let ne : row ≢ i = eqb-false row i other in has_row-range row (i + 1) n (omega arith) (omega arith)
    ] refl

pub has_row-where : (passes : ℕ → Bool) (row : ℕ) → row < length table → has_row row (rows_where passes) ≡ passes row
has_row-where passes row within =
    has_row-filter passes row (range_with_len 0 (length table))
    ∙ ap (λ b. b && passes row) (has_row-range row 0 (length table) (omega arith) (omega arith))

-- what is in a set with one more row, and in one without a row
pub has_row-with : (row other : ℕ) (rows : List ℕ) → other < length table → has_row other (with_row row rows) ≡ ((row == other) || has_row other rows)
has_row-with row other rows within = has_row-where (λ k. (row == k) || has_row k rows) other within

pub has_row-without : (row other : ℕ) (rows : List ℕ) → has_row other (without_row row rows) ≡ (has_row other rows && not (row == other))
has_row-without row other rows = has_row-filter (λ k. not (row == k)) other rows

-- a row is in the set where its bit is set
pub has_row-bits : (bits row : ℕ) → row < length table → has_row row (rows_of_bits bits) ≡ (bit_at bits row == 1)
has_row-bits bits row within = has_row-where (λ k. bit_at bits k == 1) row within

none_pass : (p : ℕ → Bool) → ((row : ℕ) → p row ≡ false) → (rows : List ℕ) → filter p rows ≡ []
none_pass p none [] = refl
none_pass p none (row ∷ rows) = ap (λ b. cond b (row ∷ filter p rows) (filter p rows)) (none row) ∙ none_pass p none rows

pub no_bits : rows_of_bits 0 ≡ []
no_bits = none_pass (λ row. bit_at 0 row == 1) (λ row. ap (λ b. b == 1) (bit_at-zero row)) (range_with_len 0 (length table))

pub no_row_bits : AreRowBits 0
no_row_bits row is = absurd (omega (arith, bit_at-zero row, is))

one_twice : (p q : ℕ → Bool) (row : ℕ) (rows : List ℕ) (test : Bool) → filter q (filter p rows) ≡ filter (λ k. p k && q k) rows → filter q (cond test (row ∷ filter p rows) (filter p rows)) ≡ cond (test && q row) (row ∷ filter (λ k. p k && q k) rows) (filter (λ k. p k && q k) rows)
one_twice p q row rows true rest = ap (λ l. cond (q row) (row ∷ l) l) rest
one_twice p q row rows false rest = rest

filter_twice : (p q : ℕ → Bool) (rows : List ℕ) → filter q (filter p rows) ≡ filter (λ row. p row && q row) rows
filter_twice p q [] = refl
filter_twice p q (row ∷ rows) = one_twice p q row rows (p row) (filter_twice p q rows)

-- the first row of a range that passes, and those that come after it
first_passes : (p q : ℕ → Bool) (k i n : ℕ) → i ≤ k → k < i + n → p k ≡ true → ((row : ℕ) → i ≤ row → row < k → p row ≡ false) → ((row : ℕ) → k < row → row < i + n → q row ≡ p row) → ((row : ℕ) → row ≤ k → q row ≡ false) → filter p (range_with_len i n) ≡ k ∷ filter q (range_with_len i n)
first_passes p q k i zero low high passes before after none = absurd (omega arith)
first_passes p q k i (suc n) low high passes before after none =
    ⊎_elim
    (λ (e : i ≡ k).
    let rest : filter p (range_with_len (i + 1) n) ≡ filter q (range_with_len (i + 1) n) =
    alike_on p q (i + 1) n (λ row above below. sym (after row (omega arith) (omega arith))) in
    rw (e, passes, none k (omega arith), rw e at rest) refl)
    (λ (ne : i ≢ k).
    rw (before i (omega arith) (omega arith), none i (omega arith))
    (first_passes p q k (i + 1) n (omega arith) (omega arith) passes (λ row above below. before row (omega arith) below) (λ row above below. after row above (omega arith)) none))
    (cases_eq i k)

module _ (bits k : ℕ) (within : k < length table) where
  abbrev marked : ℕ
  marked = bit_or bits (1 * 2 ^ k % 2 ^ 64)

  abbrev cleared : ℕ
  cleared = bit_and bits (bit_not w64 (1 * 2 ^ k % 2 ^ 64))

  short : k < 64
  short = omega (arith, within, short_table)

  marked_at : (row : ℕ) → row < length table → (bit_at marked row == 1) ≡ ((k == row) || has_row row (rows_of_bits bits))
  marked_at row in_table =
      ⊎_elim
      (λ (e : row ≡ k). rw (e, bit_at_set_same w64 bits k short, eq-eqb k k refl) refl)
      (λ (ne : row ≢ k). rw (ne_eqb k row (λ e. ne (sym e)), has_row-bits bits row in_table, bit_at_set_other w64 bits k short row ne) refl)
      (cases_eq row k)

  pub bits_marked : rows_of_bits marked ≡ with_row k (rows_of_bits bits)
  bits_marked = where_alike (λ row. bit_at marked row == 1) (λ row. (k == row) || has_row row (rows_of_bits bits)) marked_at

  pub are_marked : AreRowBits bits → AreRowBits marked
  are_marked are row is =
      ⊎_elim
      (λ (e : row ≡ k). rw e within)
      (λ (ne : row ≢ k). are row (sym (bit_at_set_other w64 bits k short row ne) ∙ is))
      (cases_eq row k)

  kept_at : (row : ℕ) → row < length table → (bit_at cleared row == 1) ≡ ((bit_at bits row == 1) && not (k == row))
  kept_at row in_table =
      ⊎_elim
      (λ (e : row ≡ k). rw (e, bit_at_clear_same w64 bits k short, eq-eqb k k refl) (sym (and_right (bit_at bits k == 1) false refl)))
      (λ (ne : row ≢ k). rw (ne_eqb k row (λ e. ne (sym e)), bit_at_clear_other w64 bits k short row (omega (arith, in_table, short_table)) ne) (sym (and-true (bit_at bits row == 1))))
      (cases_eq row k)

  pub bits_cleared : rows_of_bits cleared ≡ without_row k (rows_of_bits bits)
  bits_cleared =
      where_alike (λ row. bit_at cleared row == 1) (λ row. (bit_at bits row == 1) && not (k == row)) kept_at
      ∙ sym (filter_twice (λ row. bit_at bits row == 1) (λ row. not (k == row)) (range_with_len 0 (length table)))

  pub are_cleared : AreRowBits bits → AreRowBits cleared
  are_cleared are row is =
      let less = bit_at-lt bits row in
      are row (omega (arith, less, is, bit_at_and bits (bit_not w64 (1 * 2 ^ k % 2 ^ 64)) row))

  -- the lowest one is the first of them
  pub bits_first : bit_at bits k ≡ 1 → ((row : ℕ) → row < k → bit_at bits row ≡ 0) → rows_of_bits bits ≡ k ∷ rows_of_bits cleared
  bits_first is_set lowest =
      first_passes (λ row. bit_at bits row == 1) (λ row. bit_at cleared row == 1) k 0 (length table) (omega arith) (omega arith)
      (ap (λ n. n == 1) is_set)
      (λ row low below. ap (λ n. n == 1) (lowest row below))
      (λ row above high. ap (λ n. n == 1) (bit_at_clear_other w64 bits k short row (omega (arith, short_table)) (λ e. absurd (omega arith))))
      (λ row until. ap (λ n. n == 1) (none_until row until))
    where
      none_until : (row : ℕ) → row ≤ k → bit_at cleared row ≡ 0
      none_until row until =
          ⊎_elim
          (λ (e : row ≡ k). rw e (bit_at_clear_same w64 bits k short))
          (λ (ne : row ≢ k). bit_at_clear_other w64 bits k short row (omega (arith, short)) ne ∙ lowest row (omega arith))
          (cases_eq row k)

-- What the code does with the bits of a set, which are seen as these rows.
module _ (bits k row : ℕ) (rows : List ℕ) (seen : rows_of_bits bits ≡ rows) (at : k ≡ row) (within : k < length table) where
  pub contains_row : (bit_and (bits / 2 ^ k) 1 == 1) ≡ has_row row rows
  contains_row =
      ap (λ n. n == 1) (shr_and_one bits k)
      ∙ (sym (has_row-bits bits k within) ∙ (ap (has_row k) seen ∙ ap (λ n. has_row n rows) at))

  pub inserts_row : rows_of_bits (bit_or bits (1 * 2 ^ k % 2 ^ 64)) ≡ with_row row rows
  inserts_row = bits_marked bits k within ∙ (ap (with_row k) seen ∙ ap (λ n. with_row n rows) at)

  pub removes_row : rows_of_bits (bit_and bits (bit_not w64 (1 * 2 ^ k % 2 ^ 64))) ≡ without_row row rows
  removes_row = bits_cleared bits k within ∙ (ap (without_row k) seen ∙ ap (λ n. without_row n rows) at)

-- the lowest bit of a set that is not empty
pub record LowestBit (bits : ℕ) : Type 0 where
  pub within : trailing_zeros w64 bits < length table
  pub is_set : bit_at bits (trailing_zeros w64 bits) ≡ 1
  pub lowest : (row : ℕ) → row < trailing_zeros w64 bits → bit_at bits row ≡ 0

pub lowest_bit : (bits : ℕ) → bits ≢ 0 → bits < 2 ^ 64 → AreRowBits bits → LowestBit bits
lowest_bit bits some fits are =
    let (below, is_set, lowest) = bit_at-trailing_zeros w64 bits (omega (arith, some)) fits in
    record { within = are (trailing_zeros w64 bits) is_set; is_set = is_set; lowest = lowest }

pub none_given : (bits : ℕ) (rows : List ℕ) → rows_of_bits bits ≡ rows → bits ≡ 0 → (rows ≡ []) × (rows ≡ [])
none_given bits rows seen none = let empty : rows ≡ [] = sym seen ∙ (ap rows_of_bits none ∙ no_bits) in (empty, empty)

-- its row, and the others
pub first_given : (bits row : ℕ) (rows : List ℕ) → rows_of_bits bits ≡ rows → LowestBit bits → row ≡ trailing_zeros w64 bits → rows ≡ row ∷ rows_of_bits (bit_and bits (bit_not w64 (1 * 2 ^ trailing_zeros w64 bits % 2 ^ 64)))
first_given bits row rows seen low at =
    sym seen
    ∙ (bits_first bits (trailing_zeros w64 bits) low.within low.is_set low.lowest
    ∙ ap (λ k. k ∷ rows_of_bits (bit_and bits (bit_not w64 (1 * 2 ^ trailing_zeros w64 bits % 2 ^ 64)))) (sym at))

pub fewer_left : (row : ℕ) (rows rest : List ℕ) → rows ≡ row ∷ rest → length rest < length rows
fewer_left row rows rest is = omega (arith, ap length is)
