-- What is done to a list in place.
use Rattle.std.specs.Prelude.{ℕ, ◌+◌, ◌-◌, ◌^◌, min, List, ◌++◌, take, drop}

-- the items from one index up to another
abbrev pub between : {X : Type 0} → ℕ → ℕ → List X → List X
between from to xs = take (to - from) (drop from xs)

-- that part turned to the left: its first items, so many of them, are its last
abbrev pub turned : {X : Type 0} → ℕ → ℕ → ℕ → List X → List X
turned from to count xs =
    take from xs ++ ((drop count (between from to xs) ++ take count (between from to xs)) ++ drop to xs)

-- a number raised by another, up to the last one of 32 bits
abbrev pub raised : ℕ → ℕ → ℕ
raised last n = min (last + n) (2 ^ 32 - 1)
