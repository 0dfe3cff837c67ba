-- Whom a change of sheets tells to be marked.
use Rattle.std.specs.Prelude.{◌≡◌, ℕ, List, map, ◌&&◌, ◌||◌}
use Rattle.std.specs.List.{list_any}
use Rattle.base_model.specs.Sheet.{Sheet}
use Rattle.scene_model.specs.Element.{Element}
use Rattle.scene_model.specs.Lookups.{is_element}
use Rattle.edit_model.specs.Marked.{bears_in}
use Rattle.sheet_edit_model.specs.SheetMarks.{is_marked_by_sheets}
use Rattle.selector_types.specs.SimpleView.{key_seen}
use Rattle.selector_types.specs.declared.sheet_change.SheetChange.{SheetChange}

-- In whatever document: exactly whom the edit of the sheet with this number marks, from the lists before and after it.
abbrev pub TellsMarks : List Sheet → List Sheet → ℕ → SheetChange → Type 0
TellsMarks before after n change =
    (doc : List Element) (x : ℕ) → is_marked_by_sheets doc before after n x
    ≡ (is_element doc x && (change.swapped || list_any (λ key. bears_in doc key x) (map key_seen change.keys.items)))
