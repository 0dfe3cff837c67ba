-- Refusals of edits: `1 html; 2 p in 1; 3 i in 2`, and two sheets.
use Rattle.std.proofs.Common.{◌≡◌, ℕ, true, false, List, [], ◌∷◌, Some, None, refl}
use Rattle.std.specs.Prelude.{codes}
use Rattle.base_model.specs.Origin.{author}
use Rattle.base_model.specs.Sheet.{Sheet}
use Rattle.base_model.specs.Text.{Characters}
use Rattle.scene_model.specs.Element.{hover_state}
use Rattle.scene_model.specs.Nodes.{Node, scene_of, tree_order}
use Rattle.scene_model.specs.Ancestors.{ancestors}
use Rattle.scene_model.specs.Document.{Document, document_of}
use Rattle.edit_model.specs.Edit.{insert, remove, move, set, unset, set_state, add_sheet, remove_sheet, replace_sheet, enable_sheet}
use Rattle.edit_model.specs.Refusal.{unknown_node, unknown_sheet, bad_place}
use Rattle.edit_model.specs.Apply.{refusal}
use Rattle.edit_model.specs.SheetApply.{SheetList, sheet_refusal, sheets_after}
use Rattle.edit_model.proofs.ExampleCases.{bare}

abbrev three : Document
three = document_of (bare None (codes "html") ∷ bare (Some 0) (codes "p") ∷ bare (Some 1) (codes "i") ∷ [])

-- into its own subtree
below_itself : refusal three (move 2 3 0) ≡ Some bad_place
unfolding scene_of tree_order ancestors
below_itself = refl

-- past the last child
past_end : refusal three (insert 1 2 (bare None (codes "b") ∷ [])) ≡ Some bad_place
unfolding scene_of tree_order ancestors
past_end = refl

gone : refusal three (remove 99) ≡ Some (unknown_node 99)
unfolding scene_of tree_order
gone = refl

the_root : refusal three (remove 1) ≡ Some bad_place
unfolding scene_of tree_order
the_root = refl

root_moved : refusal three (move 1 2 0) ≡ Some bad_place
unfolding scene_of tree_order ancestors
root_moved = refl

into_itself : refusal three (move 2 2 0) ≡ Some bad_place
unfolding scene_of tree_order ancestors
into_itself = refl

-- an element that is not there is told before a place and before all limits, whatever comes

no_parent : (index : ℕ) (nodes : List Node) → refusal three (insert 4 index nodes) ≡ Some (unknown_node 4)
unfolding scene_of tree_order
no_parent index nodes = refl

no_element : (name text : Characters) → refusal three (set 4 name text) ≡ Some (unknown_node 4)
unfolding scene_of tree_order
no_element name text = refl

no_element_either : (name : Characters) → refusal three (unset 4 name) ≡ Some (unknown_node 4)
unfolding scene_of tree_order
no_element_either name = refl

-- a bad place is told before all limits
no_index : (nodes : List Node) → refusal three (insert 2 2 nodes) ≡ Some bad_place
unfolding scene_of tree_order ancestors
no_index nodes = refl

-- of a move the node is asked before the parent, and both before the place
node_first : refusal three (move 98 99 5) ≡ Some (unknown_node 98)
unfolding scene_of tree_order
node_first = refl

then_parent : refusal three (move 1 99 5) ≡ Some (unknown_node 99)
unfolding scene_of tree_order
then_parent = refl

-- the index of a move counts without the node
moved_on : refusal three (move 3 1 1) ≡ None
unfolding scene_of tree_order ancestors
moved_on = refl

in_place : refusal three (move 3 2 1) ≡ Some bad_place
unfolding scene_of tree_order ancestors
in_place = refl

allowed : refusal three (unset 3 (codes "title")) ≡ None
unfolding scene_of tree_order
allowed = refl

no_state : refusal three (set_state 4 hover_state true) ≡ Some (unknown_node 4)
unfolding scene_of tree_order
no_state = refl

abbrev sheet : ℕ → Characters → ℕ → Sheet
sheet number text edition =
    record { number = number; origin = author; enabled = true; text = text; edition = edition }

abbrev two : SheetList
two = record { listed = sheet 1 (codes "a{}") 0 ∷ sheet 3 (codes "b{}") 0 ∷ []; last = 3 }

no_sheet : sheet_refusal two (enable_sheet 2 false) ≡ Some (unknown_sheet 2)
no_sheet = refl

none_to_remove : sheet_refusal two (remove_sheet 2) ≡ Some (unknown_sheet 2)
none_to_remove = refl

-- whatever the text
none_to_replace : (text : Characters) → sheet_refusal two (replace_sheet 2 text) ≡ Some (unknown_sheet 2)
none_to_replace text = refl

no_place : (text : Characters) → sheet_refusal two (add_sheet 3 author true text) ≡ Some bad_place
no_place text = refl

at_the_end : sheets_after 3 (add_sheet 2 author true (codes "c{}")) two.listed ≡ sheet 1 (codes "a{}") 0 ∷ sheet 3 (codes "b{}") 0 ∷ sheet 4 (codes "c{}") 0 ∷ []
at_the_end = refl

-- another text is another edition, the same text is not
other_text : sheets_after 3 (replace_sheet 3 (codes "c{}")) two.listed ≡ sheet 1 (codes "a{}") 0 ∷ sheet 3 (codes "c{}") 1 ∷ []
other_text = refl

same_text : sheets_after 3 (replace_sheet 3 (codes "b{}")) two.listed ≡ two.listed
same_text = refl

taken_out : sheets_after 3 (remove_sheet 1) two.listed ≡ sheet 3 (codes "b{}") 0 ∷ []
taken_out = refl
