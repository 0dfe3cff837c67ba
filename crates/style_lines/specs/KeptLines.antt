-- The lines that are kept of elements.
use Rattle.std.specs.Prelude.{ℕ, ◌+◌, ◌==◌, ◌≤◌, List, length, take, drop, if◌then◌else◌, Option, Some, None, slice_index_or}
use Rattle.std.specs.List.{AllByRecursion}
use Rattle.style_lines.specs.declared.lines.Place.{Place}

-- the line of an element, if it is kept
abbrev pub kept_line : List (Option (List ℕ)) → ℕ → Option (List ℕ)
kept_line lines x = slice_index_or lines x None

-- a length that is kept as a number: 0 is none
abbrev pub some_length : ℕ → Option ℕ
some_length n = if n == 0 then None else Some n

-- the length of the line of an element, if it is kept
abbrev pub kept_length : List ℕ → ℕ → Option ℕ
kept_length lengths x = some_length (slice_index_or lengths x 0)

-- the line that stands at a place among bytes
abbrev pub line_in : List ℕ → Place → Option (List ℕ)
line_in bytes place = if place.len == 0 then None else Some (take place.len (drop place.start bytes))

-- each place is a part of the bytes
abbrev pub AreWithin : List ℕ → List Place → Type 0
AreWithin bytes places = AllByRecursion (λ (p : Place). p.start + p.len ≤ length bytes) places
