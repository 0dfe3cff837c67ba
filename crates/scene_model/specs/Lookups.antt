-- What can be asked of a document's elements. Each fact is asked through one of these.
use Rattle.std.specs.Prelude.{◌≡◌, ℕ, ◌==◌, List, [], ◌∷◌, map, filter, find, length, take, codes}
use Rattle.std.specs.Prelude.{Bool, true, false, not, if◌then◌else◌}
use Rattle.std.specs.Prelude.{Option, Some, None, unwrap_or, option_and_then, option_map}
use Rattle.std.specs.List.{list_any, prefix_len}
use Rattle.std.specs.Option.{option_map_or}
use Rattle.std.specs.FinMap as map
use Rattle.base_model.specs.Text.{same_text}
use Rattle.scene_model.specs.Element.{Element, Characters, Attributes, State, has_state}
use Rattle.scene_model.specs.Words.{has_word}

abbrev pub has_number : ℕ → Element → Bool
has_number x e = e.number == x

-- the numbers of the elements, in tree order
abbrev pub numbers : List Element → List ℕ
numbers doc = map (λ e. e.number) doc

abbrev pub element_at : List Element → ℕ → Option Element
element_at doc x = find (has_number x) doc

abbrev pub is_element : List Element → ℕ → Bool
is_element doc x = list_any (has_number x) doc

abbrev pub IsElement : List Element → ℕ → Type 0
IsElement doc x = is_element doc x ≡ true

abbrev pub parent_of : List Element → ℕ → Option ℕ
parent_of doc x = option_and_then (λ e. e.parent) (element_at doc x)

abbrev pub is_child_of : ℕ → Element → Bool
is_child_of p e = option_map_or (λ q. q == p) e.parent false

-- the numbers of the children, in tree order
abbrev pub children : List Element → ℕ → List ℕ
children doc p = numbers (filter (is_child_of p) doc)

-- the siblings of an element, itself among them; the root's are the root alone
abbrev pub beside : List Element → ℕ → Option ℕ → List ℕ
beside doc x None = x ∷ []
beside doc x (Some p) = children doc p

abbrev pub siblings : List Element → ℕ → List ℕ
siblings doc x = if is_element doc x then beside doc x (parent_of doc x) else []

-- what is before x in a list of numbers
abbrev pub left_of : ℕ → List ℕ → List ℕ
left_of x xs = take (prefix_len (λ y. not (y == x)) xs) xs

-- what is after x in a list of numbers
abbrev pub right_of : ℕ → List ℕ → List ℕ
right_of x [] = []
right_of x (y ∷ ys) = if y == x then ys else right_of x ys

-- its sibling index: how many siblings are before it
abbrev pub place_of : List Element → ℕ → ℕ
place_of doc x = length (left_of x (siblings doc x))

abbrev pub tag_of : List Element → ℕ → Characters
tag_of doc x = unwrap_or (option_map (λ e. e.tag) (element_at doc x)) []

-- y has the type of x
abbrev pub same_type : List Element → ℕ → ℕ → Bool
same_type doc x y = same_text (tag_of doc y) (tag_of doc x)

-- the siblings after an element, as counted from the last, or those before it
abbrev pub siblings_beyond : List Element → Bool → ℕ → List ℕ
siblings_beyond doc from_last x = if from_last then right_of x (siblings doc x) else left_of x (siblings doc x)

-- how many of a list pass a test
abbrev pub counted : (ℕ → Bool) → List ℕ → ℕ
counted test xs = length (filter test xs)

-- its place among the siblings that pass a test: how many of them are before it, or after it
abbrev pub place_by : List Element → Bool → (ℕ → Bool) → ℕ → ℕ
place_by doc from_last test x = counted test (siblings_beyond doc from_last x)

-- its place among the siblings of its type
abbrev pub place_of_type : List Element → Bool → ℕ → ℕ
place_of_type doc from_last x = place_by doc from_last (same_type doc x) x

abbrev pub attributes_of : List Element → ℕ → Attributes
attributes_of doc x = unwrap_or (option_map (λ e. e.attrs) (element_at doc x)) map.empty

abbrev pub attribute_of : List Element → ℕ → Characters → Option Characters
attribute_of doc x name = option_and_then (λ e. map.get e.attrs name) (element_at doc x)

-- whether a class is one of the words of the `class` attribute
abbrev pub has_class : List Element → ℕ → Characters → Bool
has_class doc x class = option_map_or (has_word class) (attribute_of doc x (codes "class")) false

abbrev pub state_of : List Element → ℕ → State → Bool
state_of doc x state = option_map_or (λ e. has_state e.states state) (element_at doc x) false
