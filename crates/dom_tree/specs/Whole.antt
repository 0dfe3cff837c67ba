-- The document that is kept, and what holds of what is kept.
use Rattle.std.specs.Prelude.{◌≡◌, ℕ, ◌-◌, ◌≤◌, ◌&&◌, nat_lt, Bool, false, true, List, length, Option, unwrap_or}
use Rattle.std.specs.Prelude.{slice_get}
use Rattle.std.specs.List.{filter_map}
use Rattle.stylo_base.specs.NameList.{StandOnce}
use Rattle.base_model.specs.Limits.{element_limit, number_limit}
use Rattle.scene_model.specs.Element.{Element, Characters}
use Rattle.scene_model.specs.Lookups.{IsElement, numbers, element_at, is_element, place_of, place_of_type}
use Rattle.scene_model.specs.Document.{Document}
use Rattle.scene_model.specs.Nodes.{Node, listed}
use Rattle.change_model.specs.Sound.{IsSound}
use Rattle.dom_tree.specs.declared.labels.Label.{Label}
use Rattle.dom_tree.specs.declared.span.Span.{Span}
use Rattle.dom_tree.specs.ChildLists.{AreChildren, AreParts, lists_of}
use Rattle.dom_tree.specs.Kept.{Table}
use Rattle.dom_tree.specs.Labels.{AreCuts, AreLabels}
use Rattle.dom_tree.specs.SiblingPlaces.{ArePlaces, AreZeros, HasTagBelow}

-- the elements of nodes, numbered in list order, in tree order: those of the numbers that have no place in it are gone
unfoldable pub in_order : List Node → List ℕ → List Element
in_order nodes order = filter_map (element_at (listed nodes)) order

-- the document of what is kept
abbrev pub document : Table → List ℕ → Document
document table order = record { elements = in_order table.nodes order; last = length table.nodes }

-- by number, from 1: whether it is that of an element
abbrev pub is_present : List Bool → ℕ → Bool
is_present present x = nat_lt 0 x && unwrap_or (slice_get present (x - 1)) false

pub record ArePresent (last : ℕ) (doc : List Element) (present : List Bool) : Type 0 where
  pub count : length present ≡ last
  pub each : (x : ℕ) → is_element doc x ≡ is_present present x

-- What is kept of a document: by number, from 1, its nodes, the parts of the children of each in one flat list, its
-- sibling index, its places among the siblings of its type, from the first and from the last, and its label; a tally of
-- tags by name, the class lists, and which of them was cut for each name of a value; the numbers in tree order, and
-- which numbers are those of elements.
pub record Parts : Type 0 where
  pub table : Table
  pub spans : List Span
  pub flat : List ℕ
  pub index : List ℕ
  pub before : List ℕ
  pub after : List ℕ
  pub tally : List ℕ
  pub labels : List Label
  pub lists : List (List Characters)
  pub cuts : List (Option ℕ)
  pub order : List ℕ
  pub present : List Bool

-- What holds of what is kept of a document: it is sound, its elements are those that are said to be there, and the
-- children and the places of each element are its own. What is kept of the numbers of other nodes nobody asks for,
-- but their labels are still their own. The tally is zeros, and has room for the tags of elements. The class lists
-- are those that were cut for values of `class`.
pub record IsKept (p : Parts) (doc : List Element) : Type 0 where
  pub few : length p.order ≤ element_limit
  pub given : length p.table.nodes ≤ number_limit
  pub sound : IsSound (record { elements = doc; last = length p.table.nodes })
  pub listed : numbers doc ≡ p.order
  pub known : ArePresent (length p.table.nodes) doc p.present
  pub apart : AreParts p.flat p.spans
  pub children_of : AreChildren (length p.table.nodes) doc (lists_of p.flat p.spans)
  pub index_of : ArePlaces (length p.table.nodes) doc (place_of doc) p.index
  pub before_of : ArePlaces (length p.table.nodes) doc (place_of_type doc false) p.before
  pub after_of : ArePlaces (length p.table.nodes) doc (place_of_type doc true) p.after
  pub zeros : AreZeros p.table.names p.tally
  pub tags : (x : ℕ) → IsElement doc x → HasTagBelow doc p.table.names (length p.tally) x
  pub once : StandOnce p.table.names
  pub labels_of : AreLabels p.table p.lists p.labels
  pub cuts_of : AreCuts p.table.names p.lists p.cuts

-- the same of the document that is seen
abbrev pub IsWhole : Parts → Type 0
IsWhole p = IsKept p (in_order p.table.nodes p.order)
