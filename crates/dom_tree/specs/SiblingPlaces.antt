-- Where an element is among its siblings, and among those of its type.
use Rattle.std.specs.Prelude.{◌≡◌, ℕ, ◌-◌, ◌<◌, ◌≤◌, ◌||◌, nat_lt, if◌then◌else◌, Bool, false, true, List, [], ◌∷◌}
use Rattle.std.specs.Prelude.{length, filter, ◌==◌}
use Rattle.std.specs.Prelude.{Some, IfSome, slice_get}
use Rattle.std.specs.Option.{option_map_or}
use Rattle.base_model.specs.Text.{same_text}
use Rattle.scene_model.specs.Element.{Element, Characters}
use Rattle.scene_model.specs.Lookups.{IsElement, children, counted, left_of, parent_of, right_of, same_type, tag_of}
use Rattle.scene_model.specs.Numbers.{is_in}
use Rattle.scene_model.specs.Nodes.{listed}
use Rattle.scene_model.specs.Valid.{IsValid}
use Rattle.dom_tree.specs.Kept.{Table, text_of}

-- by number, from 1 to the last one: the place of each element
pub record ArePlaces (last : ℕ) (doc : List Element) (place : ℕ → ℕ) (places : List ℕ) : Type 0 where
  pub count : length places ≡ last
  pub each : (x : ℕ) → IsElement doc x → slice_get places (x - 1) ≡ Some (place x)

-- the same, but of the children of the parents that are pending
pub record AreSettled (last : ℕ) (doc : List Element) (pending : ℕ → Bool) (place : ℕ → ℕ) (places : List ℕ)
    : Type 0 where
  pub count : length places ≡ last
  pub each : (x : ℕ) → IsElement doc x → option_map_or pending (parent_of doc x) false ≡ false
      → slice_get places (x - 1) ≡ Some (place x)

-- these parents are pending, and those with a number above one
abbrev pub or_above : (ℕ → Bool) → ℕ → ℕ → Bool
or_above pending k q = pending q || nat_lt k q

-- among siblings: how many are before x, and how many of its type are before it, or after it
abbrev pub index_among : List ℕ → ℕ → ℕ
index_among xs x = length (left_of x xs)

abbrev pub type_place : List Element → Bool → List ℕ → ℕ → ℕ
type_place doc from_last xs x = counted (same_type doc x) (if from_last then right_of x xs else left_of x xs)

-- the tag has a name below a number: a tally of so many names has room for it
abbrev pub HasNameBelow : List Characters → ℕ → Characters → Type 0
HasNameBelow names room tag = (name : ℕ) × (name < room) × (slice_get names name ≡ Some tag)

abbrev pub HasTagBelow : List Element → List Characters → ℕ → ℕ → Type 0
HasTagBelow doc names room x = HasNameBelow names room (tag_of doc x)

-- numbers from 1 to the last one, each of them once, for whose tags a tally has room
pub record AreSiblings (last : ℕ) (doc : List Element) (names : List Characters) (room : ℕ) (xs : List ℕ)
    : Type 0 where
  pub each : (x : ℕ) → is_in x xs ≡ true
      → ((0 < x) × (x ≤ last)) × (filter (λ y. y == x) xs ≡ x ∷ []) × HasTagBelow doc names room x

-- the tag of y is the text of a name
abbrev pub has_tag_named : List Element → List Characters → ℕ → ℕ → Bool
has_tag_named doc names name y = same_text (tag_of doc y) (text_of names name)

-- by name: how many of a list have that tag
pub record IsTally (doc : List Element) (names : List Characters) (room : ℕ) (xs counts : List ℕ) : Type 0 where
  pub count : length counts ≡ room
  pub few : room ≤ length names
  pub each : (name : ℕ) → name < room
      → slice_get counts name ≡ Some (counted (has_tag_named doc names name) xs)

-- the tally of none at all: it has room for so many names, and is zeros
abbrev pub AreZeros : List Characters → List ℕ → Type 0
AreZeros names counts = IsTally [] names (length counts) [] counts

-- by number, from 1: each of the numbers xs was given its value, and the others kept theirs
pub record AreWritten {X : Type 0} (value : ℕ → X) (xs : List ℕ) (old new : List X) : Type 0 where
  pub count : length new ≡ length old
  pub each : (x : ℕ) → 0 < x
      → slice_get new (x - 1) ≡ (if is_in x xs then Some (value x) else slice_get old (x - 1))

-- a document of the nodes of columns, where the parents from one number on up to another have these children
pub record IsListed (table : Table) (from to : ℕ) (lists : List (List ℕ)) (doc : List Element) : Type 0 where
  pub valid : IsValid doc
  pub given : (x : ℕ) → IsElement doc x → (0 < x) × (x ≤ length table.nodes)
  pub tags : (x : ℕ) → IsElement doc x → tag_of (listed table.nodes) x ≡ tag_of doc x
  pub lists_are : (q : ℕ) → from < q → q ≤ to → slice_get lists (q - 1) ≡ Some (children doc q)

-- what was written of each such document: the places of the children of these parents
pub record Settles (table : Table) (from to : ℕ) (lists : List (List ℕ)) (place : List Element → ℕ → ℕ)
    (old new : List ℕ) : Type 0 where
  pub count : length new ≡ length old
  pub each : (doc : List Element) (pending : ℕ → Bool) → IsListed table from to lists doc
      → AreSettled (length table.nodes) doc (or_above pending from) (place doc) old
      → AreSettled (length table.nodes) doc (or_above pending to) (place doc) new

-- the children of each of these parents are siblings for whose tags a tally has room
abbrev pub AreAllSiblings : Table → ℕ → ℕ → ℕ → List (List ℕ) → Type 0
AreAllSiblings table room from to lists =
    (q : ℕ) → from < q → q ≤ to
    → IfSome (slice_get lists (q - 1)) (AreSiblings (length table.nodes) (listed table.nodes) table.names room)
