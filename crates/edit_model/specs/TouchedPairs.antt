-- The pairs that an edit touches, as a list: each once, and none where nothing changes.
use Rattle.std.specs.Prelude.{ℕ, List, [], ◌∷◌, ◌++◌, map, filter, Bool, not, if◌then◌else◌, Option, Some, None, codes, option_to_list}
use Rattle.std.specs.Bool.{beq}
use Rattle.std.specs.List.{flat_map}
use Rattle.base_model.specs.Text.{Characters, same_text, is_empty_text}
use Rattle.scene_model.specs.Element.{Element, State}
use Rattle.scene_model.specs.Lookups.{children, attribute_of, state_of}
use Rattle.scene_model.specs.Document.{Document}
use Rattle.scene_model.specs.Words.{words}
use Rattle.edit_model.specs.Edit.{DocEdit, set, unset, set_state}
use Rattle.edit_model.specs.Apply.{after}
use Rattle.edit_model.specs.Touched.{Touch, attribute, id, class, state, positional, sibling, empty, same_optional}
use Rattle.edit_model.specs.TouchedBy.{has_class_in, changed_parents}

-- each text of a list once
abbrev pub each_once : List Characters → List Characters
each_once [] = []
each_once (text ∷ rest) = text ∷ filter (λ other. not (same_text text other)) (each_once rest)

abbrev pub words_in : Option Characters → List Characters
words_in None = []
words_in (Some value) = words value

-- the ids before and after: an empty one is none
abbrev pub ids_among : Option Characters → Option Characters → List Characters
ids_among before now = filter (λ value. not (is_empty_text value)) (option_to_list before ++ option_to_list now)

-- the classes that are in just one of two values
abbrev pub classes_between : Option Characters → Option Characters → List Characters
classes_between before now =
    filter (λ word. not (beq (has_class_in word before) (has_class_in word now)))
    (each_once (words_in before ++ words_in now))

-- what is touched where an attribute that had a value, or none, gets another
abbrev pub value_touches : Characters → Option Characters → Option Characters → List Touch
value_touches name before now =
    if same_optional before now then []
    else attribute name
    ∷ ((if same_text (codes "id") name then map id (ids_among before now) else [])
    ++ (if same_text (codes "class") name then map class (classes_between before now) else []))

abbrev pub state_touches : State → Bool → Bool → List Touch
state_touches s before now = if beq before now then [] else state s ∷ []

abbrev pub at_element : ℕ → List Touch → List (Touch × ℕ)
at_element x touches = map (λ touch. (touch, x)) touches

-- the place of a child, and its neighbours
abbrev pub child_pairs : ℕ → List (Touch × ℕ)
child_pairs c = (positional, c) ∷ (sibling, c) ∷ []

-- whether a parent has children, and what is touched at each
abbrev pub parent_pairs : List Element → ℕ → List (Touch × ℕ)
parent_pairs now p = (empty, p) ∷ flat_map child_pairs (children now p)

abbrev pub touched_pairs : Document → DocEdit → List (Touch × ℕ)
touched_pairs d (set x name text) = at_element x (value_touches name (attribute_of d.elements x name) (Some text))
touched_pairs d (unset x name) = at_element x (value_touches name (attribute_of d.elements x name) None)
touched_pairs d (set_state x s on) = at_element x (state_touches s (state_of d.elements x s) on)
touched_pairs d edit = flat_map (parent_pairs (after d edit).elements) (changed_parents d edit)
