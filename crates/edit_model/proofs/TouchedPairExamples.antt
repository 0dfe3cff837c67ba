-- Lists of what edits touch, in `1 html; 2 p in 1; 3 i in 1; 4 b in 1; 5 a in 3`.
use Rattle.std.proofs.Common.{◌≡◌, ℕ, true, false, [], ◌∷◌, Option, Some, None, refl}
use Rattle.std.specs.Prelude.{codes}
use Rattle.std.specs.FinMap as maps
use Rattle.base_model.specs.Text.{Characters}
use Rattle.scene_model.specs.Element.{hover_state}
use Rattle.scene_model.specs.Nodes.{Node, scene_of, tree_order}
use Rattle.scene_model.specs.Ancestors.{ancestors}
use Rattle.scene_model.specs.Document.{Document, document_of}
use Rattle.edit_model.specs.Edit.{insert, remove, move, set_state}
use Rattle.edit_model.specs.Touched.{attribute, id, class, state, positional, sibling, empty}
use Rattle.edit_model.specs.TouchedPairs.{value_touches, touched_pairs}
use Rattle.edit_model.proofs.ExampleCases.{quiet}

-- of values: each class once that comes or goes
classes : value_touches (codes "class") (Some (codes "a b a")) (Some (codes " c b c")) ≡ attribute (codes "class") ∷ class (codes "a") ∷ class (codes "c") ∷ []
classes = refl

-- other spaces alone
same_classes : value_touches (codes "class") (Some (codes "a b")) (Some (codes "b  a")) ≡ attribute (codes "class") ∷ []
same_classes = refl

no_classes : value_touches (codes "class") (Some (codes "a b")) None ≡ attribute (codes "class") ∷ class (codes "a") ∷ class (codes "b") ∷ []
no_classes = refl

both_ids : value_touches (codes "id") (Some (codes "x")) (Some (codes "y")) ≡ attribute (codes "id") ∷ id (codes "x") ∷ id (codes "y") ∷ []
both_ids = refl

same_id : value_touches (codes "id") (Some (codes "x")) (Some (codes "x")) ≡ []
same_id = refl

-- an empty id is none
empty_id : value_touches (codes "id") None (Some []) ≡ attribute (codes "id") ∷ []
empty_id = refl

title : value_touches (codes "title") None (Some []) ≡ attribute (codes "title") ∷ []
title = refl

-- of a document

abbrev node : Option ℕ → Characters → Node
node parent tag = record { parent = parent; tag = tag; attrs = maps.empty; states = quiet }

abbrev five : Document
five =
    document_of (node None (codes "html") ∷ node (Some 0) (codes "p") ∷ node (Some 0) (codes "i") ∷ node (Some 0) (codes "b") ∷ node (Some 2) (codes "a") ∷ [])

hovered : touched_pairs five (set_state 2 hover_state true) ≡ (state hover_state, 2) ∷ []
unfolding scene_of tree_order
hovered = refl

not_hovered : touched_pairs five (set_state 2 hover_state false) ≡ []
unfolding scene_of tree_order
not_hovered = refl

-- the parent loses its one child
emptied : touched_pairs five (remove 5) ≡ (empty, 3) ∷ []
unfolding scene_of tree_order ancestors
emptied = refl

-- new siblings are touched too, but not what is below them
put_in : touched_pairs five (insert 3 0 (node None (codes "u") ∷ node (Some 0) (codes "s") ∷ [])) ≡ (empty, 3) ∷ (positional, 6) ∷ (sibling, 6) ∷ (positional, 5) ∷ (sibling, 5) ∷ []
unfolding scene_of tree_order ancestors
put_in = refl

-- within one parent, which stands in the list once
turned : touched_pairs five (move 2 1 1) ≡ (empty, 1) ∷ (positional, 3) ∷ (sibling, 3) ∷ (positional, 2) ∷ (sibling, 2) ∷ (positional, 4) ∷ (sibling, 4) ∷ []
unfolding scene_of tree_order ancestors
turned = refl

in_place : touched_pairs five (move 2 1 0) ≡ []
unfolding scene_of tree_order ancestors
in_place = refl

-- from one parent to another
away : touched_pairs five (move 5 2 0) ≡ (empty, 3) ∷ (empty, 2) ∷ (positional, 5) ∷ (sibling, 5) ∷ []
unfolding scene_of tree_order ancestors
away = refl
