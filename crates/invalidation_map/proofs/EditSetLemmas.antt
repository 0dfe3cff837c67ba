-- The sets that edits fill: what is known of one of them is known of all.
use Rattle.std.proofs.Common.{◌≡◌, ℕ, ◌≤◌, ◌&&◌, nat_le, Bool, List, refl, arith}
use Rattle.scene_model.specs.Element.{Element}
use Rattle.invalidation_map.specs.EditMembers.{is_given}
use Rattle.invalidation_map.specs.Members.{Members}
use Rattle.invalidation_map.specs.Marks.{IsGrown}
use Rattle.invalidation_map.specs.Steps.{HasRoom}

-- a set that grew, with the room of all
pub grown_in : (test : ℕ → Bool) (m n : Members) (room : ℕ) → IsGrown test m n
    → IsGrown test (record { items = m.items; room = room }) (record { items = n.items; room = room })
grown_in test m n room grown = record { room = refl; each = grown.each }

-- where all have room, each has
pub room_in : (doc : List Element) (all room own : ℕ) → HasRoom doc all → room ≡ all → room ≤ own → HasRoom doc own
room_in doc all room own has same fits x there = omega (arith, has x there, same, fits)

-- numbers that were given, once all have been gone over
pub all_given : (before last n : ℕ) → last ≤ n → (x : ℕ) → (is_given before last x && nat_le x n) ≡ is_given before last x
all_given before last n h x = grind arith
