-- What an edit of a document comes to: a refusal, the first in the order of unknown elements, places and limits, or the
-- document after it. Each limit is of what would be there after the edit.
use Rattle.std.specs.Prelude.{ℕ, ◌+◌, nat_le, List, [], ◌∷◌, length, Bool, false, not, ◌||◌, Option, None, is_none}
use Rattle.std.specs.List.{list_all}
use Rattle.std.specs.Option.{option_or}
use Rattle.std.specs.FinMap as finmap
use Rattle.base_model.specs.Limits.{element_limit, number_limit, depth_limit, attribute_limit, value_limit}
use Rattle.scene_model.specs.Element.{Element, Attributes}
use Rattle.scene_model.specs.Lookups.{is_element, parent_of, children, attributes_of}
use Rattle.scene_model.specs.Ancestors.{depth_of}
use Rattle.scene_model.specs.Nodes.{Node}
use Rattle.scene_model.specs.Document.{Document}
use Rattle.change_model.specs.InPlace.{with_attribute, without_attribute, with_state}
use Rattle.change_model.specs.Sound.{is_below, without, subtree_of}
use Rattle.change_model.specs.ChildLists.{inserted, removed, moved}
use Rattle.change_model.specs.Fresh.{is_inserted, is_moved}
use Rattle.edit_model.specs.Edit.{DocEdit, insert, remove, move, set, unset, set_state}
use Rattle.edit_model.specs.Refusal.{Refusal, unknown_node, bad_place, limit, element_count, number_count, tree_depth, attribute_count, value_bytes, Outcome, outcome_of, unless, past, bytes_of}

abbrev pub after : Document → DocEdit → Document
after d (insert p index nodes) = inserted d p index nodes
after d (remove n) = removed d n
after d (move n p index) = moved d n p index
after d (set x name text) = record d { elements = with_attribute x name text d.elements }
after d (unset x name) = record d { elements = without_attribute x name d.elements }
after d (set_state x state on) = record d { elements = with_state x state on d.elements }

abbrev pub not_there : Document → ℕ → Option Refusal
not_there d x = unless (is_element d.elements x) (unknown_node x)

abbrev pub unknown : Document → DocEdit → Option Refusal
unknown d (insert p index nodes) = not_there d p
unknown d (remove n) = not_there d n
unknown d (move n p index) = option_or (not_there d n) (not_there d p)
unknown d (set x name text) = not_there d x
unknown d (unset x name) = not_there d x
unknown d (set_state x state on) = not_there d x

-- the index is at most the number of children
abbrev pub has_index : List Element → ℕ → ℕ → Bool
has_index doc p index = nat_le index (length (children doc p))

abbrev pub is_root : Document → ℕ → Bool
is_root d n = is_none (parent_of d.elements n)

abbrev pub is_misplaced : Document → DocEdit → Bool
is_misplaced d (insert p index nodes) = not (has_index d.elements p index)
is_misplaced d (remove n) = is_root d n
is_misplaced d (move n p index) =
    is_root d n || (is_below d.elements n p || not (has_index (without d.elements n) p index))
is_misplaced d edit = false

abbrev pub misplaced : Document → DocEdit → Option Refusal
misplaced d edit = unless (not (is_misplaced d edit)) bad_place

abbrev pub values_past : Attributes → Option Refusal
values_past attrs =
    unless (list_all (λ text. nat_le (bytes_of text) value_limit) (finmap.values attrs)) (limit value_bytes value_limit)

abbrev pub node_past : Node → Option Refusal
node_past node = option_or (past attribute_count attribute_limit (finmap.len node.attrs)) (values_past node.attrs)

abbrev pub nodes_past : List Node → Option Refusal
nodes_past [] = None
nodes_past (node ∷ nodes) = option_or (node_past node) (nodes_past nodes)

-- of an element that came or moved, and of all below it: the others stay as deep as they are
abbrev pub depth_past : List Element → ℕ → Option Refusal
depth_past doc n =
    unless (list_all (λ e. nat_le (depth_of doc e.number) depth_limit) (subtree_of doc n))
    (limit tree_depth depth_limit)

abbrev pub limit_past : Document → DocEdit → Option Refusal
limit_past d (insert p index nodes) =
    let new = inserted d p index nodes in
    option_or (nodes_past nodes)
    (option_or (past element_count element_limit (length new.elements))
    (option_or (past number_count number_limit new.last) (depth_past new.elements (d.last + 1))))
limit_past d (move n p index) = depth_past (moved d n p index).elements n
limit_past d (set x name text) =
    let new = with_attribute x name text d.elements in
    option_or (past attribute_count attribute_limit (finmap.len (attributes_of new x)))
    (past value_bytes value_limit (bytes_of text))
limit_past d edit = None

abbrev pub refusal : Document → DocEdit → Option Refusal
refusal d edit = option_or (unknown d edit) (option_or (misplaced d edit) (limit_past d edit))

abbrev pub applied : Document → DocEdit → Outcome Document
applied d edit = outcome_of (refusal d edit) (after d edit)

-- which elements an accepted edit makes fresh
abbrev pub is_fresh : Document → DocEdit → ℕ → Bool
is_fresh d (insert p index nodes) x = is_inserted d x
is_fresh d (move n p index) x = is_moved d.elements (moved d n p index).elements n x
is_fresh d edit x = false
