-- Lists of elements, each the child of the next, up to the root.
use Rattle.std.specs.Prelude.{◌≡◌, ℕ, List, [], ◌∷◌}
use Rattle.scene_model.specs.Element.{Element}
use Rattle.scene_model.specs.Lookups.{IsElement}
use Rattle.scene_model.specs.Ancestors.{ancestors}

-- an element and its ancestors, or nothing (DOM, "ancestor")
abbrev pub IsPath : List Element → List ℕ → Type 0
IsPath doc [] = Unit {0}
IsPath doc (x ∷ above) = IsElement doc x × (above ≡ ancestors doc x)
