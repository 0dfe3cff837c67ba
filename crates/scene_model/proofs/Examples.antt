-- The definitions computed on small documents.
use Rattle.std.specs.Prelude.{◌≡◌, ℕ, List, [], ◌∷◌, ◌++◌, map, Option, Some, None, unwrap_or, true, false, codes}
use Rattle.std.proofs.Common.{refl, ap}
use Rattle.std.proofs.lemmas.Cmp.{nat_list_cmp_total}
use Rattle.std.specs.Cmp.Lexicographic.{slice_cmp}
use Rattle.std.specs.Ordering.{nat_cmp}
use Rattle.std.specs.Option.{option_map_or}
use Rattle.std.specs.List.{list_all, list_any}
use Rattle.std.specs.FinMap as finmap
use Rattle.base_model.specs.Ascii.{tab, line_feed, form_feed, carriage_return}
use Rattle.scene_model.specs.Element.{Characters, Attributes, States, hover_state, active_state, focus_state}
use Rattle.scene_model.specs.Words.{words, has_word}
use Rattle.scene_model.specs.Lookups.{numbers, is_element, parent_of, children, siblings, place_of, place_of_type, attribute_of, has_class, state_of}
use Rattle.scene_model.specs.Ancestors.{ancestors, depth_of}
use Rattle.scene_model.specs.Nodes.{Node, tree_order, scene_of}

abbrev quiet : States
quiet = record { hover = false; active = false; focus = false }

abbrev node : Option ℕ → Node
node p = record { parent = p; tag = codes "p"; attrs = finmap.empty; states = quiet }

-- a root, two below it, and one below the first of them
abbrev four : List Node
four = node None ∷ node (Some 0) ∷ node (Some 0) ∷ node (Some 1) ∷ []

abbrev chain : List Node
chain = node None ∷ node (Some 0) ∷ node (Some 1) ∷ node (Some 2) ∷ []

abbrev fan : List Node
fan = node None ∷ node (Some 0) ∷ node (Some 0) ∷ node (Some 0) ∷ []

-- each element in tree order: its number, its parent's or 0, its sibling index, and its children's numbers
abbrev shown : List Node → List (List ℕ)
shown nodes =
    let doc = scene_of nodes in
    map (λ x. x ∷ unwrap_or (parent_of doc x) 0 ∷ place_of doc x ∷ children doc x) (numbers doc)

in_order : tree_order four ≡ 1 ∷ 2 ∷ 4 ∷ 3 ∷ []
unfolding tree_order
in_order = refl

four_shown : shown four ≡ (1 ∷ 0 ∷ 0 ∷ 2 ∷ 3 ∷ []) ∷ (2 ∷ 1 ∷ 0 ∷ 4 ∷ []) ∷ (4 ∷ 2 ∷ 0 ∷ []) ∷ (3 ∷ 1 ∷ 1 ∷ []) ∷ []
unfolding scene_of tree_order
four_shown = refl

chain_shown : shown chain ≡ (1 ∷ 0 ∷ 0 ∷ 2 ∷ []) ∷ (2 ∷ 1 ∷ 0 ∷ 3 ∷ []) ∷ (3 ∷ 2 ∷ 0 ∷ 4 ∷ []) ∷ (4 ∷ 3 ∷ 0 ∷ []) ∷ []
unfolding scene_of tree_order
chain_shown = refl

fan_shown : shown fan ≡ (1 ∷ 0 ∷ 0 ∷ 2 ∷ 3 ∷ 4 ∷ []) ∷ (2 ∷ 1 ∷ 0 ∷ []) ∷ (3 ∷ 1 ∷ 1 ∷ []) ∷ (4 ∷ 1 ∷ 2 ∷ []) ∷ []
unfolding scene_of tree_order
fan_shown = refl

numbered_from_one : map (is_element (scene_of fan)) (0 ∷ 1 ∷ 4 ∷ 5 ∷ []) ≡ false ∷ true ∷ true ∷ false ∷ []
unfolding scene_of tree_order
numbered_from_one = refl

alone : siblings (scene_of four) 1 ≡ 1 ∷ []
unfolding scene_of tree_order
alone = refl

-- a root, and below it p, q, p and p
abbrev mixed : List Node
mixed = node None ∷ node (Some 0) ∷ record (node (Some 0)) { tag = codes "q" } ∷ node (Some 0) ∷ node (Some 0) ∷ []

first_places : map (place_of_type (scene_of mixed) false) (1 ∷ 2 ∷ 3 ∷ 4 ∷ 5 ∷ 6 ∷ []) ≡ 0 ∷ 0 ∷ 0 ∷ 1 ∷ 2 ∷ 0 ∷ []
unfolding scene_of tree_order
first_places = refl

last_places : map (place_of_type (scene_of mixed) true) (1 ∷ 2 ∷ 3 ∷ 4 ∷ 5 ∷ 6 ∷ []) ≡ 0 ∷ 2 ∷ 0 ∷ 1 ∷ 0 ∷ 0 ∷ []
unfolding scene_of tree_order
last_places = refl

above_four : ancestors (scene_of four) 4 ≡ 2 ∷ 1 ∷ []
unfolding scene_of tree_order ancestors
above_four = refl

depths : map (depth_of (scene_of four)) (1 ∷ 2 ∷ 3 ∷ 4 ∷ []) ≡ 1 ∷ 2 ∷ 2 ∷ 3 ∷ []
unfolding scene_of tree_order ancestors
depths = refl

-- attributes and states

abbrev entries : List (Characters × Characters)
entries = (codes "id", codes "first") ∷ (codes "class", tab ∷ codes "a b" ++ line_feed ∷ codes "c" ++ form_feed ∷ codes "d" ++ carriage_return ∷ codes "e  fg ") ∷ (codes "id", codes "second") ∷ []

abbrev attributes : Attributes
attributes = finmap.from_entries entries

-- a root with an attribute twice, and a class for each whitespace character
abbrev html : List Node
html = record {
  parent = None;
  tag = codes "html";
  attrs = attributes;
  states = record quiet { active = true };
} ∷ []

-- a map does not compute, and is what its entries say
found : (name : Characters) → finmap.get attributes name ≡ finmap.find (slice_cmp nat_cmp) name entries
found = finmap.get-from_entries nat_list_cmp_total entries

first_counts : attribute_of (scene_of html) 1 (codes "id") ≡ Some (codes "first")
unfolding scene_of tree_order
first_counts = found (codes "id")

tag_is_no_attribute : attribute_of (scene_of html) 1 (codes "html") ≡ None
unfolding scene_of tree_order
tag_is_no_attribute = found (codes "html")

classes : list_all (has_class (scene_of html) 1) (codes "a" ∷ codes "b" ∷ codes "c" ∷ codes "d" ∷ codes "e" ∷ codes "fg" ∷ []) ≡ true
unfolding scene_of tree_order
classes =
    ap (λ value. list_all (λ class. option_map_or (has_word class) value false) (codes "a" ∷ codes "b" ∷ codes "c" ∷ codes "d" ∷ codes "e" ∷ codes "fg" ∷ [])) (found (codes "class"))

no_classes : list_any (has_class (scene_of html) 1) ([] ∷ codes "f" ∷ codes "A" ∷ codes "a b" ∷ codes "e  fg" ∷ []) ≡ false
unfolding scene_of tree_order
no_classes =
    ap (λ value. list_any (λ class. option_map_or (has_word class) value false) ([] ∷ codes "f" ∷ codes "A" ∷ codes "a b" ∷ codes "e  fg" ∷ [])) (found (codes "class"))

in_states : map (state_of (scene_of html) 1) (active_state ∷ hover_state ∷ focus_state ∷ []) ≡ true ∷ false ∷ false ∷ []
unfolding scene_of tree_order
in_states = refl

-- words; é is U+00E9

two_words : words (codes "  a b  ") ≡ codes "a" ∷ codes "b" ∷ []
two_words = refl

abbrev cafe : Characters
cafe = codes "caf" ++ 233 ∷ []

between_words : has_word cafe (codes "a " ++ cafe ++ codes " b") ≡ true
between_words = refl

-- neither U+00A0 nor U+000B is whitespace
no_word : list_any (has_word (codes "a")) ([] ∷ codes " " ∷ codes "b ab" ∷ (97 ∷ 160 ∷ 98 ∷ []) ∷ (97 ∷ 11 ∷ 98 ∷ []) ∷ []) ≡ false
no_word = refl
