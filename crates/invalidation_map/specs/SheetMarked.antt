-- Whom a change of sheets marks.
use Rattle.std.specs.Prelude.{ℕ, ◌&&◌, ◌||◌, Bool, List}
use Rattle.std.specs.List.{list_any}
use Rattle.scene_model.specs.Element.{Element}
use Rattle.scene_model.specs.Lookups.{is_element}
use Rattle.selector_model.specs.Key.{Key}
use Rattle.edit_model.specs.Marked.{bears_in}

-- an element of the document that bears one of the keys, or any where layers are swapped
abbrev pub is_sheet_marked : List Element → List Key → Bool → ℕ → Bool
is_sheet_marked doc keys swapped x = is_element doc x && (swapped || list_any (λ key. bears_in doc key x) keys)
