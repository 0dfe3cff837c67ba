-- What an edit touches, told edit by edit: at one element the tests of an attribute or a state, and for each parent
-- whose list of children it changes whether that has children, and place and neighbours of each child.
use Rattle.std.specs.Prelude.{◌≡◌, ℕ, ◌==◌, List, [], ◌∷◌, ◌++◌, filter, Bool, false, not, ◌&&◌, ◌||◌, if◌then◌else◌, Option, Some, None, codes, option_to_list}
use Rattle.std.specs.Bool.{beq}
use Rattle.std.specs.List.{list_any, IsDistinct}
use Rattle.std.specs.Option.{option_map_or}
use Rattle.base_model.specs.Text.{Characters, same_text}
use Rattle.scene_model.specs.Element.{Element, State, hover_state, active_state, focus_state}
use Rattle.scene_model.specs.Lookups.{parent_of, attribute_of, has_class, state_of}
use Rattle.scene_model.specs.Numbers.{is_in}
use Rattle.scene_model.specs.Document.{Document}
use Rattle.scene_model.specs.Words.{has_word}
use Rattle.selector_model.specs.Holds.{is_id}
use Rattle.change_model.specs.ChildLists.{moved}
use Rattle.change_model.specs.Fresh.{is_still}
use Rattle.edit_model.specs.Edit.{DocEdit, insert, remove, move, set, unset, set_state}
use Rattle.edit_model.specs.Apply.{after}
use Rattle.edit_model.specs.Touched.{Touch, attribute, id, class, state, positional, sibling, empty, same_optional, is_touched}

abbrev pub state_rank : State → ℕ
state_rank hover_state = 0
state_rank active_state = 1
state_rank focus_state = 2

abbrev pub same_state : State → State → Bool
same_state a b = state_rank a == state_rank b

-- the values of an attribute, before and as given, differ
abbrev pub value_differs : List Element → ℕ → Characters → Option Characters → Bool
value_differs doc x name given = not (same_optional (attribute_of doc x name) given)

abbrev pub has_id : Characters → Option Characters → Bool
has_id name given = option_map_or (is_id name) given false

abbrev pub has_class_in : Characters → Option Characters → Bool
has_class_in name given = option_map_or (has_word name) given false

-- what is touched at x where an attribute of it gets a value, or none
abbrev pub by_attribute : List Element → ℕ → Characters → Option Characters → Touch → Bool
by_attribute doc x name given (attribute n) = same_text n name && value_differs doc x n given
by_attribute doc x name given (id n) =
    same_text (codes "id") name
    && (value_differs doc x (codes "id") given && (has_id n (attribute_of doc x (codes "id")) || has_id n given))
by_attribute doc x name given (class n) =
    same_text (codes "class") name && not (beq (has_class doc x n) (has_class_in n given))
by_attribute doc x name given touch = false

-- and where a state of it is set
abbrev pub by_state : List Element → ℕ → State → Bool → Touch → Bool
by_state doc x s on (state t) = same_state t s && not (beq (state_of doc x t) on)
by_state doc x s on touch = false

-- the parents whose lists of children an edit changes, each once: of a move the one before, where it is another, and
-- the one after
abbrev pub changed_parents : Document → DocEdit → List ℕ
changed_parents d (insert p index nodes) = p ∷ []
changed_parents d (remove n) = option_to_list (parent_of d.elements n)
changed_parents d (move n p index) =
    if is_still d.elements (moved d n p index).elements n then []
    else filter (λ q. not (q == p)) (option_to_list (parent_of d.elements n)) ++ p ∷ []
changed_parents d edit = []

-- so for a parent with m children 2m + 1 pairs
abbrev pub by_lists : List ℕ → List Element → Touch → ℕ → Bool
by_lists parents new positional y = option_map_or (λ q. is_in q parents) (parent_of new y) false
by_lists parents new sibling y = option_map_or (λ q. is_in q parents) (parent_of new y) false
by_lists parents new empty y = is_in y parents
by_lists parents new touch y = false

abbrev pub is_touched_by : Document → DocEdit → Touch → ℕ → Bool
is_touched_by d (set x name text) touch y = (y == x) && by_attribute d.elements x name (Some text) touch
is_touched_by d (unset x name) touch y = (y == x) && by_attribute d.elements x name None touch
is_touched_by d (set_state x s on) touch y = (y == x) && by_state d.elements x s on touch
is_touched_by d edit touch y = by_lists (changed_parents d edit) (after d edit).elements touch y

-- The list of pairs that an edit answers with: exactly what is touched, each once.

abbrev pub touch_code : Touch → ℕ × Characters
touch_code (attribute name) = (0, name)
touch_code (id name) = (1, name)
touch_code (class name) = (2, name)
touch_code (state s) = (3, state_rank s ∷ [])
touch_code positional = (4, [])
touch_code sibling = (5, [])
touch_code empty = (6, [])

abbrev pub same_touch : Touch → Touch → Bool
same_touch a b = ((touch_code a).0 == (touch_code b).0) && same_text (touch_code a).1 (touch_code b).1

abbrev pub same_pair : Touch × ℕ → Touch × ℕ → Bool
same_pair p q = same_touch p.0 q.0 && (p.1 == q.1)

abbrev pub is_listed : List (Touch × ℕ) → Touch → ℕ → Bool
is_listed pairs touch y = list_any (same_pair (touch, y)) pairs

pub record AreTouched (before now : List Element) (pairs : List (Touch × ℕ)) : Type 0 where
  pub exact : (touch : Touch) (y : ℕ) → is_listed pairs touch y ≡ is_touched before now touch y
  pub once : IsDistinct same_pair pairs
