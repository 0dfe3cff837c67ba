-- A part of a job as its JSON says it, or the first place in it where something is absent or of another shape.
use Rattle.std.specs.Prelude.{⊤, ℕ, ◌==◌, Bool, true, false, if◌then◌else◌, List, [], ◌∷◌, ◌++◌, Option, Some, None, Result, Ok, Err, codes, decimal}
use Rattle.std.specs.Str.{chars}
use Rattle.base_model.specs.Text.{Characters}

-- The place is told by the JSON pointer (RFC 6901) that leads to it from the part.
abbrev pub Checked : Type 0 → Type 0
Checked A = Result A Characters

-- one after another, up to the first bad one
infixl 10 ◌>>=◌
abbrev pub ◌>>=◌ : {A B : Type 0} → Checked A → (A → Checked B) → Checked B
Ok a >>= next = next a
Err path >>= next = Err path

abbrev pub map_ok : {A B E : Type 0} → (A → B) → Result A E → Result B E
map_ok f (Ok a) = Ok (f a)
map_ok f (Err e) = Err e

-- nothing means that the part itself is bad
abbrev pub wanted : {A : Type 0} → Option A → Checked A
wanted None = Err []
wanted (Some a) = Ok a

abbrev pub right : Bool → Checked ⊤
right false = Err []
right true = Ok tt

-- in a pointer `~0` stands for `~`, and `~1` for `/` (RFC 6901, section 3)
abbrev pub escaped_one : ℕ → Characters
escaped_one c = if c == 126 then codes "~0" else if c == 47 then codes "~1" else c ∷ []

abbrev pub escaped : Characters → Characters
escaped [] = []
escaped (c ∷ cs) = escaped_one c ++ escaped cs

-- the pointer to a place in a member or in an item
abbrev pub below : Characters → Characters → Characters
below step path = codes "/" ++ (step ++ path)

abbrev pub step_to : {A : Type 0} → Characters → Checked A → Checked A
step_to step (Ok a) = Ok a
step_to step (Err path) = Err (below step path)

-- the member with this key
abbrev pub at_member : {A : Type 0} → List ℕ → Checked A → Checked A
at_member key = step_to (escaped (chars key))

-- the item with this index
abbrev pub at_index : {A : Type 0} → ℕ → Checked A → Checked A
at_index index = step_to (decimal index)
