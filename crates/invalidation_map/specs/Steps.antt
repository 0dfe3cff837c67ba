-- One step of a path, from the elements of a list into a set.
use Rattle.std.specs.Prelude.{◌≡◌, ℕ, ◌<◌, ◌||◌, Bool, true, List, length, take}
use Rattle.std.specs.List.{AllByRecursion, list_any}
use Rattle.scene_model.specs.Element.{Element}
use Rattle.scene_model.specs.Lookups.{IsElement, right_of}
use Rattle.scene_model.specs.Numbers.{is_in}
use Rattle.scene_model.specs.Valid.{IsValid}
use Rattle.selector_model.specs.Holds.{is_in_relation}
use Rattle.selector_model.specs.Selector.{Combinator}
use Rattle.invalidation_map.specs.Members.{Members}

abbrev pub AreElements : List Element → List ℕ → Type 0
AreElements doc xs = AllByRecursion (IsElement doc) xs

-- there is room for each element
abbrev pub HasRoom : List Element → ℕ → Type 0
HasRoom doc room = (x : ℕ) → IsElement doc x → x < room

-- a set with those added to which one of a list leads
pub record AreLed (leads : ℕ → ℕ → Bool) (from : List ℕ) (old new : Members) : Type 0 where
  pub room : new.room ≡ old.room
  pub each : (x : ℕ) → is_in x new.items ≡ (is_in x old.items || list_any (λ y. leads y x) from)
  pub front : take (length old.items) new.items ≡ old.items

-- a step can be taken from these into that set: they are elements, and it has room for each
pub record CanStep (doc : List Element) (from : List ℕ) (into : Members) : Type 0 where
  pub elements : AreElements doc from
  pub room : HasRoom doc into.room

-- a set with those added that one of a list is in a relation to; where the list has one, the document is valid
pub record AddsRelated (doc : List Element) (k : Combinator) (from : List ℕ) (old new : Members) : Type 0 where
  pub led : AreLed (is_in_relation doc k) from old new
  pub valid : 0 < length from → IsValid doc

-- where a number is in the set, all that are after it in the list are
abbrev pub IsClosed : List ℕ → List ℕ → Type 0
IsClosed list items = (n z : ℕ) → is_in n items ≡ true → is_in z (right_of n list) ≡ true → is_in z items ≡ true
