-- What contracts see of entries.
use Rattle.std.specs.Prelude.{ℕ, List, map}

-- each with what is seen of its value
abbrev pub seen : {A B : Type 0} → (A → B) → List (ℕ × A) → List (ℕ × B)
seen f entries = map (λ e. (e.0, f e.1)) entries
