-- The names of an element, and the filter that they are counted in.
use Rattle.std.specs.Prelude.{ℕ, ◌%◌, List, [], map, encode_utf8_all}
use Rattle.scene_model.specs.Element.{Element, Characters}
use Rattle.stylo_base.specs.NameKey.{key_of}
use Rattle.dom_tree.specs.ElementNames.{ElementName, names_of as element_names}
use Rattle.ancestor_model.specs.Counts.{slot_count, Counts, StandsFor as CountsFor}

-- the slot of a name
abbrev pub slot : Characters → ℕ
slot name = key_of (encode_utf8_all name) % slot_count

abbrev pub texts : List ElementName → List Characters
texts names = map (λ n. n.text) names

-- its tag, its id, if it has one that is not empty, and its classes, each once
abbrev pub names_of : List Element → ℕ → List Characters
names_of doc x = texts (element_names doc x)

-- the filter counts the names of these elements
abbrev pub StandsFor : List Element → List ℕ → List ℕ → Type 0
StandsFor doc elements filter = CountsFor slot (names_of doc) elements filter

-- and so of no elements, in any document
abbrev pub CountsNothing : List ℕ → Type 0
CountsNothing filter = Counts slot [] filter
