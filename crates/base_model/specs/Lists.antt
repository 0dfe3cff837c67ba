-- Words on lists that the library has not.
use Rattle.std.specs.Prelude.{List, [], ◌∷◌, Bool, true, false, if◌then◌else◌, Option, Some, None}
use Rattle.base_model.specs.Options.{◌>>=◌}

abbrev pub is_nil : {X : Type 0} → List X → Bool
is_nil [] = true
is_nil (x ∷ xs) = false

-- adds an item to the first of some lists
abbrev pub onto_first : {X : Type 0} → X → List (List X) → List (List X)
onto_first x [] = (x ∷ []) ∷ []
onto_first x (xs ∷ others) = (x ∷ xs) ∷ others

-- the parts between the items that pass
abbrev pub split_by : {X : Type 0} → (X → Bool) → List X → List (List X)
split_by passes [] = [] ∷ []
split_by passes (x ∷ xs) = if passes x then [] ∷ split_by passes xs else onto_first x (split_by passes xs)

-- all of them, if each is there
abbrev pub every : {X : Type 0} → List (Option X) → Option (List X)
every [] = Some []
every (item ∷ items) = do
  x ← item
  xs ← every items
  Some (x ∷ xs)

-- the first answer, if some item has one
abbrev pub first_some : {X Y : Type 0} → (X → Option Y) → List X → Option Y
first_some f [] = None
first_some f (x ∷ xs) = elim (f x) [ Some y ↦ Some y | None ↦ first_some f xs ]
