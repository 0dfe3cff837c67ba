-- What is taken from the front of a reader's tokens: a value as serde_json reads one, or nothing.
use Rattle.std.specs.Prelude.{◌≡◌, ℕ, List, Option, Some}
use Rattle.json.specs.Token.{Token}
use Rattle.json.specs.Json.{items, members, value}
use Rattle.serde_json.specs.Data.{Data, Items, Members}
use Rattle.serde_json.specs.Read.{of_json, of_items, of_members, converted}

-- the value at the front of the tokens and the tokens after it; arrays and objects nest no deeper in it than the number
unfoldable pub taken : ℕ → List Token → Option (Data × List Token)
taken depth ts = converted of_json (value depth ts)

-- The items of an array up to its end. The second number bounds how many there are.
unfoldable pub items_taken : ℕ → ℕ → List Token → Option (Items × List Token)
items_taken depth n ts = converted of_items (items (value depth) n ts)

-- the members of an object up to its end, put one after another to those that were found before
unfoldable pub members_taken : ℕ → Members → ℕ → List Token → Option (Members × List Token)
members_taken depth found n ts = converted (λ ms. of_members ms found) (members (value depth) n ts)

-- A value was read and the tokens after it are left, and the answer is what f says of it.
abbrev pub Says : {A : Type 0} → (Data → A) → A → Option (Data × List Token) → List Token → Type 0
Says f answer read rest = (d : Data) × (read ≡ Some (d, rest)) × (f d ≡ answer)

-- A value was read and the tokens after it are left.
abbrev pub IsTaken : Option (Data × List Token) → List Token → Type 0
IsTaken read rest = (d : Data) × (read ≡ Some (d, rest))

-- The items of an array, or the members of an object, were read, and the tokens after them are left.
abbrev pub AreTaken : {A : Type 0} → Option (A × List Token) → List Token → Type 0
AreTaken {A} read rest = (a : A) × (read ≡ Some (a, rest))
