-- The members of the object of attributes, as they are kept until it ends.
use Rattle.std.specs.Prelude.{ℕ, if◌then◌else◌, List, [], ◌∷◌, Bool, false, is_some, Option, Some, None, IfSome, Ok, option_map}
use Rattle.std.specs.Option.{option_or}
use Rattle.std.specs.Ordering.{nat_cmp, match_ordering, eq_by_cmp}
use Rattle.std.specs.Cmp.Lexicographic.{slice_cmp}
use Rattle.std.specs.Str.{bytes_eq, IsUtf8}
use Rattle.serde_json.specs.Data.{Members, no_members, member}
use Rattle.serde_json.specs.Find.{as_str}
use Rattle.scene_model.specs.Element.{Characters}
use Rattle.job_json.specs.declared.slots.Slot.{Slot}
use Rattle.job_json.specs.Checked.{Checked, ◌>>=◌, wanted, at_member}
use Rattle.job_json.specs.Words.{pair_from}
use Rattle.job_json.specs.Limits.{Passed, value_past}

-- a key, and its text where the value is one
abbrev pub Pair : Type 0
Pair = List ℕ × Option (List ℕ)

abbrev pub slot_pair : Slot → Pair
slot_pair slot = (slot.name.now, option_map (λ t. t.now) slot.value)

-- both are texts in UTF-8
abbrev pub AreTexts : Pair → Type 0
AreTexts pair = IsUtf8 pair.0 × IfSome pair.1 IsUtf8

-- the slots, with one at its key
abbrev pub put_slot : Slot → List Slot → List Slot
put_slot slot [] = slot ∷ []
put_slot slot (first ∷ slots) =
    match_ordering (slice_cmp nat_cmp slot.name.now first.name.now)
    (slot ∷ first ∷ slots)
    (slot ∷ slots)
    (first ∷ put_slot slot slots)

abbrev pub slots_of : Members → List Pair
slots_of no_members = []
slots_of (member key value rest) = (key, as_str value) ∷ slots_of rest

-- what pairs in the order of their keys say
abbrev pub said_by : List Pair → Checked (List (Characters × Characters))
said_by [] = Ok []
said_by (pair ∷ pairs) = do
  first ← at_member pair.0 (wanted (pair_from pair.0 pair.1))
  rest ← said_by pairs
  Ok (first ∷ rest)

-- the limit of a value that they pass
abbrev pub passed_by : List Pair → Option Passed
passed_by [] = None
passed_by (pair ∷ pairs) = option_or (value_past pair.1) (passed_by pairs)

-- of pairs with the same key, one after another, the last
abbrev pub begins_with : List ℕ → List Pair → Bool
begins_with key [] = false
begins_with key (pair ∷ pairs) = bytes_eq pair.0 key

abbrev pub latest : List Pair → List Pair
latest [] = []
latest (pair ∷ pairs) = if begins_with pair.0 pairs then latest pairs else pair ∷ latest pairs

-- the last value with this key
abbrev pub last_at : List ℕ → List Pair → Option (Option (List ℕ))
last_at key [] = None
last_at key (pair ∷ pairs) =
    option_or (last_at key pairs) (if eq_by_cmp (slice_cmp nat_cmp) key pair.0 then Some pair.1 else None)

-- the first key that is no attribute with its value
abbrev pub first_bad_key : List Pair → Option (List ℕ)
first_bad_key [] = None
first_bad_key (pair ∷ pairs) = if is_some (pair_from pair.0 pair.1) then first_bad_key pairs else Some pair.0
