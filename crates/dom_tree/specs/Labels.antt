-- The id and the class list of each element.
use Rattle.std.specs.Prelude.{◌≡◌, ℕ, ◌<◌, ◌≤◌, if◌then◌else◌, List, [], length, codes}
use Rattle.std.specs.Prelude.{Option, Some, None, IfSome, option_map, option_and_then, slice_get}
use Rattle.std.specs.FinMap as finmap
use Rattle.std.specs.Option.{option_map_or}
use Rattle.std.specs.Str.{chars}
use Rattle.base_model.specs.Text.{is_empty_text, same_text}
use Rattle.stylo_base.specs.NameList.{StandOnce}
use Rattle.scene_model.specs.Element.{Characters}
use Rattle.scene_model.specs.Nodes.{Node}
use Rattle.dom_tree.specs.declared.labels.Label.{Label}
use Rattle.dom_tree.specs.Classes.{distinct_words, list_of}
use Rattle.dom_tree.specs.Kept.{KeepsTexts, Table, text_of}

-- an id that is empty is none
abbrev pub id_text : Characters → Option Characters
id_text value = if is_empty_text value then None else Some value

-- the id of a node
abbrev pub id_of : Node → Option Characters
id_of node = option_and_then id_text (finmap.get node.attrs (chars (codes "id")))

-- the words of a value of `class`, each once
abbrev pub class_words : Option Characters → List Characters
class_words value = option_map_or distinct_words value []

-- the classes of a node
abbrev pub classes_of : Node → List Characters
classes_of node = class_words (finmap.get node.attrs (chars (codes "class")))

-- the label says the id and the classes of the node
pub record IsLabel (names : List Characters) (lists : List (List Characters)) (node : Node) (label : Label)
    : Type 0 where
  pub id : option_map (text_of names) label.id ≡ id_of node
  pub named : IfSome label.id (λ name. name < length names)
  pub classes : list_of lists label.classes ≡ classes_of node
  pub listed : IfSome label.classes (λ k. k < length lists)

-- the same, of the label first
abbrev pub IsLabelOf : List Characters → List (List Characters) → Label → Node → Type 0
IsLabelOf names lists label node = IsLabel names lists node label

-- a label for each node
pub record AreLabels (table : Table) (lists : List (List Characters)) (labels : List Label) : Type 0 where
  pub count : length labels ≡ length table.nodes
  pub each : (i : ℕ) → i < length labels → IfSome (slice_get labels i) (λ label.
      IfSome (slice_get table.nodes i) (IsLabelOf table.names lists label))

-- the attributes of a node once one of them has this value, or once it has no such one
pub record IsGiven (name : Characters) (value : Option Characters) (node after : Node) : Type 0 where
  pub given : (other : Characters)
      → finmap.get after.attrs other ≡ (if same_text name other then value else finmap.get node.attrs other)

-- the list that was cut for a value, if it was
abbrev pub IsCut : List (List Characters) → Characters → Option ℕ → Type 0
IsCut lists value None = Unit {0}
IsCut lists value (Some k) = slice_get lists k ≡ Some (distinct_words value)

-- the lists that were cut, by the names of values; a new name may have none yet
pub record AreCuts (names : List Characters) (lists : List (List Characters)) (cuts : List (Option ℕ)) : Type 0 where
  pub count : length cuts ≤ length names
  pub each : (v : ℕ) → v < length cuts → IfSome (slice_get cuts v) (IsCut lists (text_of names v))

-- lists that were appended stay
abbrev pub KeepsLists : List (List Characters) → List (List Characters) → Type 0
KeepsLists old new = (k : ℕ) (list : List Characters) → slice_get old k ≡ Some list → slice_get new k ≡ Some list

-- more names, more class lists, and what was cut for them
pub record HasMore (names : List Characters) (lists : List (List Characters)) (later : List Characters)
    (longer : List (List Characters)) (cuts : List (Option ℕ)) : Type 0 where
  pub texts : KeepsTexts names later
  pub once : StandOnce later
  pub also : KeepsLists lists longer
  pub cut : AreCuts later longer cuts
