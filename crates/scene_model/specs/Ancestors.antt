-- The elements above an element: its parent, the parent's parent, and so on to the root.
use Rattle.std.specs.Prelude.{ℕ, zero, suc, ◌+◌, List, [], ◌∷◌, length, Option, Some, None}
use Rattle.std.specs.List.{position_or_len}
use Rattle.scene_model.specs.Element.{Element}
use Rattle.scene_model.specs.Lookups.{has_number, parent_of}

-- the element's position in tree order, from 0
abbrev pub position_of : List Element → ℕ → ℕ
position_of doc x = position_or_len (has_number x) doc

-- a parent and what is above it
abbrev pub up : (ℕ → List ℕ) → Option ℕ → List ℕ
up above None = []
up above (Some p) = p ∷ above p

-- what is met in so many steps up
abbrev pub climb : List Element → ℕ → ℕ → List ℕ
climb doc zero x = []
climb doc (suc steps) x = up (climb doc steps) (parent_of doc x)

-- A parent is before its child, so there are no more ancestors than elements before x.
unfoldable pub ancestors : List Element → ℕ → List ℕ
ancestors doc x = climb doc (position_of doc x) x

-- the root has depth 1
abbrev pub depth_of : List Element → ℕ → ℕ
depth_of doc x = length (ancestors doc x) + 1
