-- What an edit touched, as it is kept.
use Rattle.std.specs.Prelude.{◌≡◌, ℕ, ◌<◌, List, [], ◌∷◌, ◌++◌, length, map}
use Rattle.std.specs.List.{flat_map}
use Rattle.edit_model.specs.Touched as model
use Rattle.edit_model.specs.TouchedPairs.{child_pairs}
use Rattle.dom_edits.specs.declared.touch.Touch.{Touch}
use Rattle.dom_edits.specs.TouchView.{pairs_at, touch_seen}

-- what is touched where lists of children change: whether there are children, and of a child its place and neighbours
abbrev pub list_touches : List model.Touch
list_touches = model.empty ∷ model.positional ∷ model.sibling ∷ []

-- at these parents, and at the children that they have afterwards
abbrev pub list_pairs : List ℕ → List ℕ → List (model.Touch × ℕ)
list_pairs parents children = map (λ p. (model.empty, p)) parents ++ flat_map child_pairs children

abbrev pub touched_seen : List Touch → List ℕ → List ℕ → List ℕ → List (model.Touch × ℕ)
touched_seen touches elements parents children =
    pairs_at (map touch_seen touches) elements ++ list_pairs parents children

-- either elements are touched in these ways, or lists of children changed
abbrev pub AreOfOneKind : List Touch → List ℕ → List ℕ → Type 0
AreOfOneKind touches parents children = 0 < length touches → (parents ≡ []) × (children ≡ [])
