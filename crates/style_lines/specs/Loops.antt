-- What reading to the end and writing the whole do to the bytes outside, where those are told.
use Rattle.std.specs.Prelude.{◌≡◌, ℕ, ◌≤◌, List, [], length, take, drop, Some, IfSome, Option}
use Rattle.std.specs.Io.KnownBytes.{Appends}

-- the input was these bytes, and is at its end
abbrev pub IsReadWhole : Option (List ℕ) → Option (List ℕ) → List ℕ → Type 0
IsReadWhole old new bytes = IfSome old (λ all. (bytes ≡ all) × (new ≡ Some []))

-- the input lost its first n bytes
abbrev pub LosesFront : ℕ → Option (List ℕ) → Option (List ℕ) → Type 0
LosesFront n old new = IfSome old (λ all. (n ≤ length all) × (new ≡ Some (drop n all)))

-- the input lost at most n bytes
abbrev pub LosesAtMost : ℕ → Option (List ℕ) → Option (List ℕ) → Type 0
LosesAtMost most old new = (n : ℕ) × (n ≤ most) × LosesFront n old new

-- the output grew by a front of the piece
abbrev pub GrewByFront : Option (List ℕ) → Option (List ℕ) → List ℕ → Type 0
GrewByFront old new piece = (n : ℕ) × (n ≤ length piece) × Appends old new (take n piece)
