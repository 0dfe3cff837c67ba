-- What is kept of the members of an object, or of the items of an array.
use Rattle.std.specs.Prelude.{◌≡◌, List, Bool, true, false, Option, Some, None}
use Rattle.serde_json.specs.Data.{Data, Members, Items}
use Rattle.serde_json.specs.View.{items_of}

-- The value is an object exactly where the answer is true, and then what is kept is so of its members.
abbrev pub KeepsMembers : {S : Type 0} → (S → Members → Type 0) → S → Option Members → Bool → Type 0
KeepsMembers keeps s None is = is ≡ false
KeepsMembers keeps s (Some ms) is = (is ≡ true) × keeps s ms

-- The value is an array exactly where the answer is true, and then what is kept is so of its items.
abbrev pub KeepsItems : {S : Type 0} → (S → List Data → Type 0) → S → Option Items → Bool → Type 0
KeepsItems keeps s None is = is ≡ false
KeepsItems keeps s (Some js) is = (is ≡ true) × ((ds : List Data) × (js ≡ items_of ds) × keeps s ds)
