-- Counters of names, as in a counting Bloom filter with one hash: each name has one of 4,096 slots.
use Rattle.std.specs.Prelude.{◌≡◌, ℕ, ◌+◌, ◌-◌, ◌<◌, ◌==◌, nat_lt, ◌&&◌, ◌⊎◌, if◌then◌else◌}
use Rattle.std.specs.Prelude.{List, [], ◌∷◌, length, flat_map, replicate, slice_index_or, slice_set}
use Rattle.base_model.specs.Text.{Characters}

-- how many slots there are, and the greatest that a counter can tell
abbrev pub slot_count : ℕ
slot_count = 4_096

abbrev pub full : ℕ
full = 255

abbrev pub counter_at : List ℕ → ℕ → ℕ
counter_at counters s = slice_index_or counters s 0

-- One name more of a slot. A counter that is full stays: it no longer tells how many there are.
abbrev pub raised : ℕ → List ℕ → List ℕ
raised s counters =
    if nat_lt (counter_at counters s) full then slice_set counters s (counter_at counters s + 1) else counters

-- One name less of a slot. A counter that is full stays, and so does one of 0.
abbrev pub lowered : ℕ → List ℕ → List ℕ
lowered s counters =
    if nat_lt 0 (counter_at counters s) && nat_lt (counter_at counters s) full
    then slice_set counters s (counter_at counters s - 1)
    else counters

-- all counters at one number: at 0 they are of no name, and full ones are of any names
abbrev pub all_at : ℕ → List ℕ
all_at n = replicate slot_count n

module _ (slot : Characters → ℕ) where
  -- how many of some names have this slot
  abbrev pub times : ℕ → List Characters → ℕ
  times s [] = 0
  times s (name ∷ names) = if slot name == s then 1 + times s names else times s names

  -- the counter is full, or it is less and the number of names of its slot
  abbrev pub IsCount : List Characters → List ℕ → ℕ → Type 0
  IsCount names counters s =
      (counter_at counters s ≡ full) ⊎ ((counter_at counters s < full) × (counter_at counters s ≡ times s names))

  -- the counters are of these names
  pub record Counts (names : List Characters) (counters : List ℕ) : Type 0 where
    pub length_is : length counters ≡ slot_count
    pub each : (s : ℕ) → s < slot_count → IsCount names counters s

  -- a change at the slot of each name, one after another
  abbrev pub at_each : (ℕ → List ℕ → List ℕ) → List Characters → List ℕ → List ℕ
  at_each change [] counters = counters
  at_each change (name ∷ names) counters = at_each change names (change (slot name) counters)

  abbrev pub all_raised : List Characters → List ℕ → List ℕ
  all_raised names counters = at_each raised names counters

  abbrev pub all_lowered : List Characters → List ℕ → List ℕ
  all_lowered names counters = at_each lowered names counters

  module _ (names_of : ℕ → List Characters) where
    -- the counters are of the names of these elements
    abbrev pub StandsFor : List ℕ → List ℕ → Type 0
    StandsFor elements counters = Counts (flat_map names_of elements) counters

    -- an element more, or one less
    abbrev pub pushed : ℕ → List ℕ → List ℕ
    pushed x counters = all_raised (names_of x) counters

    abbrev pub popped : ℕ → List ℕ → List ℕ
    popped x counters = all_lowered (names_of x) counters
