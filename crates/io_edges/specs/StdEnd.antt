-- Sources over readers and sinks over writers.
use Rattle.std.specs.Prelude.{ℕ, List, [], Option, Result, is_err, if◌then◌else◌}
use Rattle.io_edges.specs.Cause.{next_count}

-- what the reader has left, where that is known, and how many faults there were
pub record StdEnd : Type 0 where
  pub bytes : Option (List ℕ)
  pub faults : ℕ

-- before the first call
abbrev pub first_use : Option (List ℕ) → StdEnd
first_use bytes = record { bytes = bytes; faults = 0 }

-- what the writer holds and then what is gathered, where that is known; what is gathered, and not written yet; and how
-- many faults there were
pub record StdOutput : Type 0 where
  pub bytes : Option (List ℕ)
  pub gathered : List ℕ
  pub faults : ℕ

-- before the first call
abbrev pub first_output : Option (List ℕ) → StdOutput
first_output bytes = record { bytes = bytes; gathered = []; faults = 0 }

-- the faults after a call with this result: one more at an error
abbrev pub faults_after : {T E : Type 0} → ℕ → Result T E → ℕ
faults_after faults result = if is_err result then next_count faults else faults
