-- What edits of child lists touch: `1 html; 2 p in 1; 3 i in 2; 4 b in 1; 5 u in 4`.
use Rattle.std.proofs.Common.{◌≡◌, ℕ, false, List, [], ◌∷◌, filter, Some, None, refl}
use Rattle.std.specs.Prelude.{codes}
use Rattle.base_model.specs.Text.{Characters}
use Rattle.scene_model.specs.Element.{State}
use Rattle.scene_model.specs.Lookups.{numbers}
use Rattle.scene_model.specs.Ancestors.{ancestors}
use Rattle.scene_model.specs.Nodes.{scene_of, tree_order}
use Rattle.scene_model.specs.Document.{Document, document_of}
use Rattle.edit_model.specs.Edit.{DocEdit, insert, remove, move}
use Rattle.edit_model.specs.Refusal.{bad_place}
use Rattle.edit_model.specs.Apply.{after, refusal}
use Rattle.edit_model.specs.Touched.{Touch, attribute, id, class, state, positional, sibling, empty as no_children, is_touched}
use Rattle.edit_model.specs.TouchedBy.{is_touched_by}
use Rattle.edit_model.proofs.ExampleCases.{bare}

abbrev start : Document
start =
    document_of (bare None (codes "html") ∷ bare (Some 0) (codes "p") ∷ bare (Some 1) (codes "i") ∷ bare (Some 0) (codes "b") ∷ bare (Some 3) (codes "u") ∷ [])

abbrev touched : Document → DocEdit → Touch → List ℕ
touched d edit touch =
    filter (is_touched d.elements (after d edit).elements touch) (numbers (after d edit).elements)

-- the order after an edit, where it touches places and neighbours, and where it touches whether there are children
abbrev Touches : Document → DocEdit → List ℕ → List ℕ → List ℕ → Type 0
Touches d edit order listed parents =
    (numbers (after d edit).elements ≡ order) × (touched d edit positional ≡ listed) × (touched d edit sibling ≡ listed)
    × (touched d edit no_children ≡ parents)

-- q over s
abbrev put_in : DocEdit
put_in = insert 2 1 (bare None (codes "q") ∷ bare (Some 0) (codes "s") ∷ [])

abbrev first : Document
first = after start put_in

of_insertion : Touches start put_in (1 ∷ 2 ∷ 3 ∷ 6 ∷ 7 ∷ 4 ∷ 5 ∷ []) (3 ∷ 6 ∷ []) (2 ∷ [])
unfolding scene_of tree_order ancestors
of_insertion = (refl, refl, refl, refl)

abbrev second : Document
second = after first (move 4 2 0)

-- both parents lose or get a child
of_move : Touches first (move 4 2 0) (1 ∷ 2 ∷ 4 ∷ 5 ∷ 3 ∷ 6 ∷ 7 ∷ []) (2 ∷ 4 ∷ 3 ∷ 6 ∷ []) (1 ∷ 2 ∷ [])
unfolding scene_of tree_order ancestors
of_move = (refl, refl, refl, refl)

of_no_move : Touches second (move 4 2 0) (1 ∷ 2 ∷ 4 ∷ 5 ∷ 3 ∷ 6 ∷ 7 ∷ []) [] []
unfolding scene_of tree_order ancestors
of_no_move = (refl, refl, refl, refl)

past_end : refusal second (move 2 1 2) ≡ Some bad_place
unfolding scene_of tree_order ancestors
past_end = refl

below_itself : refusal second (move 2 5 0) ≡ Some bad_place
unfolding scene_of tree_order ancestors
below_itself = refl

of_removal : Touches second (remove 6) (1 ∷ 2 ∷ 4 ∷ 5 ∷ 3 ∷ []) (4 ∷ 3 ∷ []) (2 ∷ [])
unfolding scene_of tree_order ancestors
of_removal = (refl, refl, refl, refl)

-- among the same siblings: the order of the list is touched as well
of_turn : Touches second (move 3 2 0) (1 ∷ 2 ∷ 3 ∷ 4 ∷ 5 ∷ 6 ∷ 7 ∷ []) (3 ∷ 4 ∷ 6 ∷ []) (2 ∷ [])
unfolding scene_of tree_order ancestors
of_turn = (refl, refl, refl, refl)

-- the last child goes: nothing is left beside it
of_last : Touches start (remove 3) (1 ∷ 2 ∷ 4 ∷ 5 ∷ []) [] (2 ∷ [])
unfolding scene_of tree_order ancestors
of_last = (refl, refl, refl, refl)

-- and nothing else, neither at the elements that come nor at those that stay
nothing_else : (name : Characters) (s : State) (y : ℕ) → (is_touched_by start put_in (attribute name) y ∷ is_touched_by start put_in (id name) y ∷ is_touched_by start put_in (class name) y ∷ is_touched_by start put_in (state s) y ∷ []) ≡ false ∷ false ∷ false ∷ false ∷ []
nothing_else name s y = refl
