-- When a fault may be told, and when the end of the input.
use Rattle.std.specs.Prelude.{◌≡◌, ℕ, ◌+◌, ◌-◌, ◌^◌, ◌≤◌, ◌↔◌, min, List, [], IfSome, IfOk, Option, Result}

-- one more, as far as 64 bits can count
abbrev pub next_count : ℕ → ℕ
next_count n = min (n + 1) (2 ^ 64 - 1)

-- the count rose, or is at its last value
abbrev pub Rose : ℕ → ℕ → Type 0
Rose before now = next_count before ≤ now

-- a count of faults doesn't fall, and there is a failure only where it rose
pub record HasCause (before now : ℕ) (failure : Type 0) : Type 0 where
  pub later : before ≤ now
  pub rose : failure → Rose before now

-- an Ok is Ok(0) exactly where no byte was left, if that is told
abbrev pub EndsAtEnd : {E : Type 0} → Option (List ℕ) → Result ℕ E → Type 0
EndsAtEnd left result = IfSome left (λ bytes. IfOk result (λ n. (n ≡ 0) ↔ (bytes ≡ [])))
