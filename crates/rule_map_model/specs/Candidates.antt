-- The rules that an element may match, by the keys of their selectors.
use Rattle.std.specs.Prelude.{ℕ, ◌+◌, List, [], ◌∷◌, Bool, if◌then◌else◌}
use Rattle.std.specs.List.{list_any}
use Rattle.scene_model.specs.Element.{Element}
use Rattle.selector_model.specs.Selector.{Selector}
use Rattle.selector_model.specs.Key.{key_of}
use Rattle.selector_model.specs.Bears.{bears}

-- x bears the key of some of them
abbrev pub bears_some : List Element → ℕ → List Selector → Bool
bears_some doc x selectors = list_any (λ s. bears doc (key_of s) x) selectors

-- the numbers, from this one on, of the rules with some key that x bears
abbrev pub candidates_from : List Element → ℕ → ℕ → List (List Selector) → List ℕ
candidates_from doc x i [] = []
candidates_from doc x i (selectors ∷ rest) =
    if bears_some doc x selectors then i ∷ candidates_from doc x (i + 1) rest else candidates_from doc x (i + 1) rest

abbrev pub candidates : List Element → ℕ → List (List Selector) → List ℕ
candidates doc x rules = candidates_from doc x 0 rules
