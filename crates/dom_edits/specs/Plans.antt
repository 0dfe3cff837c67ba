-- What is told of an edit of a document before it is made.
use Rattle.std.specs.Prelude.{ℕ, Bool, true, false, not, if◌then◌else◌, Option, Some, None}
use Rattle.scene_model.specs.Document.{Document}
use Rattle.change_model.specs.ChildLists.{moved}
use Rattle.change_model.specs.Fresh.{is_still}
use Rattle.edit_model.specs.Edit.{DocEdit, insert, remove, move, set, unset, set_state}

-- whether a list of children changes: a move to where the element is changes none
abbrev pub changes_a_list : Document → DocEdit → Bool
changes_a_list d (insert p index nodes) = true
changes_a_list d (remove n) = true
changes_a_list d (move n p index) = not (is_still d.elements (moved d n p index).elements n)
changes_a_list d edit = false

-- the element that is taken out, if one is
abbrev pub element_taken : DocEdit → Option ℕ
element_taken (remove n) = Some n
element_taken edit = None

-- the element that is moved, if one is: to where it is, none is
abbrev pub element_moved : Document → DocEdit → Option ℕ
element_moved d (move n p index) = if is_still d.elements (moved d n p index).elements n then None else Some n
element_moved d edit = None
