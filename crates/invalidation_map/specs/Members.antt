-- A set of numbers of elements.
use Rattle.std.specs.Prelude.{◌≡◌, ℕ, ◌+◌, ◌<◌, ◌||◌, ◌&&◌, max, not, nat_eq, Bool, false, List, [], ◌∷◌, ◌++◌}
use Rattle.std.specs.Prelude.{length, take, if◌then◌else◌, slice_index_or, refl}
use Rattle.std.specs.List.{AllByRecursion, IsDistinct}
use Rattle.std.specs.Coded.{Coded, code_by, coded×, coded_ℕ, coded_list}
use Rattle.scene_model.specs.Numbers.{is_in}

-- its numbers in the order of adding, and its room: each number below it can be added
pub record Members : Type 0 where
  pub items : List ℕ
  pub room : ℕ

abbrev pub members_code : Coded Members
members_code =
    code_by (List ℕ × ℕ) (coded× (coded_list coded_ℕ) coded_ℕ)
    (λ m. (m.items, m.room))
    (λ p. record { items = p.0; room = p.1 })
    (λ _. refl)

abbrev pub AreBelow : ℕ → List ℕ → Type 0
AreBelow room xs = AllByRecursion (λ y. y < room) xs

-- how many flags are set
abbrev pub set_flags : List Bool → ℕ
set_flags [] = 0
set_flags (flag ∷ flags) = (if flag then 1 else 0) + set_flags flags

-- a flag a number, and a list as long as the room, of which the first count are used
pub record AreFlags (flags : List Bool) (list : List ℕ) (count : ℕ) : Type 0 where
  pub room : length list ≡ length flags
  pub count_is : count ≡ set_flags flags
  pub each : (x : ℕ) → slice_index_or flags x false ≡ is_in x (take count list)
  pub below : AreBelow (length flags) (take count list)
  pub once : IsDistinct nat_eq (take count list)

-- with room for the numbers up to `last`, where there is not yet
abbrev pub widened : ℕ → Members → Members
widened last m = record m { room = max m.room (last + 1) }

-- one number more
abbrev pub added : Members → ℕ → Members
added m x = if is_in x m.items then m else record { items = m.items ++ x ∷ []; room = m.room }

-- a set with other numbers added
pub record AreAdded (xs : List ℕ) (old new : Members) : Type 0 where
  pub room : new.room ≡ old.room
  pub each : (x : ℕ) → is_in x new.items ≡ (is_in x old.items || is_in x xs)
  pub front : take (length old.items) new.items ≡ old.items

-- flags without those of numbers
pub record AreUnset (xs : List ℕ) (old new : List Bool) : Type 0 where
  pub room : length new ≡ length old
  pub each : (x : ℕ) → slice_index_or new x false ≡ (slice_index_or old x false && not (is_in x xs))
