-- What contracts see of the slots beside a selector.
use Rattle.std.specs.Prelude.{ℕ, ◌≡◌, ◌<◌, ◌≤◌, nat_lt, take, length, List, [], ◌∷◌, slice_index, if◌then◌else◌}
use Rattle.ancestor_model.specs.Above.{looked_up}
use Rattle.ancestor_model.specs.Counts.{slot_count}
use Rattle.rule_map_model.specs.Places.{Place}
use Rattle.rule_maps.specs.declared.pair.Pair.{Pair}
use Rattle.rule_maps.specs.declared.pair.Slots.{Slots}

-- those before the first unused place
abbrev pub used_slots : List ℕ → List ℕ
used_slots [] = []
used_slots (s ∷ rest) = if nat_lt s slot_count then s ∷ used_slots rest else []

abbrev pub slots_seen : Slots → List ℕ
slots_seen slots = used_slots slots.list

abbrev pub place_seen : Pair → Place
place_seen pair = record { rule = pair.rule; selector = pair.selector; slots = slots_seen pair.slots }

-- of four places so many have a slot, and the others are unused
pub record AreFilled (list : List ℕ) (count : ℕ) : Type 0 where
  pub few : count ≤ 4
  pub used : (k : ℕ) → k < count → slice_index list k < slot_count
  pub unused : (k : ℕ) → count ≤ k → k < length list → slot_count ≤ slice_index list k

-- as many of the slots as are looked up
abbrev pub AreFirst : List ℕ → List ℕ → Type 0
AreFirst found slots = found ≡ take looked_up slots
