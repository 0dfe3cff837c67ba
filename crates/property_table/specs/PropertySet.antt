-- Sets of properties, as the rows in them.
use Rattle.std.specs.Prelude.{◌≡◌, ℕ, ◌<◌, ◌==◌, ◌||◌, not, Bool, List, filter, length}
use Rattle.std.specs.Int.{bit_at}
use Rattle.std.specs.List.{list_any, range_with_len}
use Rattle.value_model.specs.Table.{table}

-- the rows of the table that pass, in its order
abbrev pub rows_where : (ℕ → Bool) → List ℕ
rows_where passes = filter passes (range_with_len 0 (length table))

-- whether a row is among some
abbrev pub has_row : ℕ → List ℕ → Bool
has_row row rows = list_any (λ other. row == other) rows

-- the rows of a set, and this one
abbrev pub with_row : ℕ → List ℕ → List ℕ
with_row row rows = rows_where (λ other. (row == other) || has_row other rows)

-- all but this one
abbrev pub without_row : ℕ → List ℕ → List ℕ
without_row row rows = filter (λ other. not (row == other)) rows

-- the rows whose bits are set
abbrev pub rows_of_bits : ℕ → List ℕ
rows_of_bits bits = rows_where (λ row. bit_at bits row == 1)

-- no other bit is set
abbrev pub AreRowBits : ℕ → Type 0
AreRowBits bits = (row : ℕ) → bit_at bits row ≡ 1 → row < length table
