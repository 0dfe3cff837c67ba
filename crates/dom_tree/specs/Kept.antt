-- What the columns of a document stand for, and what holds of what is kept.
use Rattle.std.specs.Prelude.{◌≡◌, ℕ, ◌+◌, ◌-◌, ◌<◌, ◌≤◌, ◌==◌, nat_lt, if◌then◌else◌}
use Rattle.std.specs.Prelude.{List, [], ◌∷◌, map, length, take, drop, refl}
use Rattle.std.specs.Prelude.{Option, Some, None, unwrap_or, slice_get, slice_set, false, not}
use Rattle.std.specs.List.{AllByRecursion, filter}
use Rattle.std.specs.Option.{option_map_or}
use Rattle.std.specs.FinMap as finmap
use Rattle.std.specs.Coded.{Coded, code_by, coded×, coded_ℕ, coded_list}
use Rattle.scene_model.specs.Element.{Characters, Attributes, States}
use Rattle.scene_model.specs.Nodes.{Node, nodes_code}
use Rattle.stylo_base.specs.NameList.{is_among}
use Rattle.dom_tree.specs.declared.span.Span.{Span}
use Rattle.dom_tree.specs.declared.node_columns.AttrRow.{AttrRow}
use Rattle.dom_tree.specs.declared.node_columns.NodeRow.{NodeRow}
use Rattle.dom_tree.specs.View.{states_of}

-- the text of a name
abbrev pub text_of : List Characters → ℕ → Characters
text_of names name = unwrap_or (slice_get names name) []

-- the name that a text has, if it has one
abbrev pub IsNameOf : List Characters → Characters → Option ℕ → Type 0
IsNameOf names text None = is_among text names ≡ false
IsNameOf names text (Some name) = slice_get names name ≡ Some text

-- the items of a part of a flat list
abbrev pub part_of : {X : Type 0} → List X → Span → List X
part_of list span = take span.count (drop span.first list)

-- attributes

abbrev pub named_pair : List Characters → AttrRow → Characters × Characters
named_pair names row = (text_of names row.name, text_of names row.value)

abbrev pub name_text : List Characters → AttrRow → Characters
name_text names row = text_of names row.name

-- the name of each row has a text
abbrev pub HaveNames : List Characters → List AttrRow → Type 0
HaveNames names rows = AllByRecursion (λ row. row.name < length names) rows

-- the name and the value of the row have texts
abbrev pub IsNamed : List Characters → AttrRow → Type 0
IsNamed names row = (row.name < length names) × (row.value < length names)

-- the map of rows of attributes
abbrev pub named_attributes : List Characters → List AttrRow → Attributes
named_attributes names rows = finmap.from_entries (map (named_pair names) rows)

-- the rows, sorted by name, once a name has a value
abbrev pub put_row : ℕ → ℕ → List AttrRow → List AttrRow
put_row name value [] = record { name = name; value = value } ∷ []
put_row name value (row ∷ rows) =
    if nat_lt row.name name then row ∷ put_row name value rows
    else if row.name == name then record { name = name; value = value } ∷ rows
    else record { name = name; value = value } ∷ row ∷ rows

-- the rows without that of a name
abbrev pub without_row : ℕ → List AttrRow → List AttrRow
without_row name rows = filter (λ row. not (row.name == name)) rows

-- the rows of an element: each name and each value has a text, and no name is there twice
abbrev pub AreAttrs : List Characters → List AttrRow → Type 0
AreAttrs names [] = Unit {0}
AreAttrs names (row ∷ rows) =
    ((row.name < length names) × (row.value < length names))
    × AllByRecursion (λ other. row.name < other.name) rows
    × AreAttrs names rows

-- nodes

-- the texts that have names, and the nodes
pub record Table : Type 0 where
  pub names : List Characters
  pub nodes : List Node

abbrev pub table_code : Coded Table
table_code =
    code_by (List Characters × List Node) (coded× (coded_list (coded_list coded_ℕ)) nodes_code)
    (λ t. (t.names, t.nodes))
    (λ p. record { names = p.0; nodes = p.1 })
    (λ _. refl)

abbrev pub node_seen : List Characters → List AttrRow → NodeRow → Node
node_seen names attrs row = record {
  parent = row.parent;
  tag = text_of names row.tag;
  attrs = named_attributes names (part_of attrs row.attrs);
  states = states_of row.states;
}

pub record IsRow (names : List Characters) (attrs : List AttrRow) (row : NodeRow) : Type 0 where
  pub tag : row.tag < length names
  pub within : row.attrs.first + row.attrs.count ≤ length attrs
  pub attributes : AreAttrs names (part_of attrs row.attrs)

abbrev pub AreRows : List Characters → List AttrRow → List NodeRow → Type 0
AreRows names attrs rows = AllByRecursion (IsRow names attrs) rows

-- a node of a list that is appended to others, of which `last` are before it: its parent is named by index in all, and
-- that of the root is the one of number p
abbrev pub kept_node : ℕ → ℕ → Node → Node
kept_node last p node = record node { parent = Some (option_map_or (λ q. last + q) node.parent (p - 1)) }

-- names that were given keep their texts
abbrev pub KeepsTexts : List Characters → List Characters → Type 0
KeepsTexts old new = (name : ℕ) → name < length old → slice_get new name ≡ slice_get old name

-- edits

-- the nodes, where that at an index is changed
abbrev pub put_node : ℕ → (Node → Node) → List Node → List Node
put_node index f nodes = option_map_or (λ node. slice_set nodes index (f node)) (slice_get nodes index) nodes

abbrev pub with_attr : Characters → Characters → Node → Node
with_attr name value node = record node { attrs = finmap.insert node.attrs name value }

abbrev pub without_attr : Characters → Node → Node
without_attr name node = record node { attrs = finmap.remove node.attrs name }

abbrev pub with_states : States → Node → Node
with_states states node = record node { states = states }

abbrev pub with_parent : ℕ → Node → Node
with_parent parent node = record node { parent = Some parent }

abbrev pub row_with_part : Span → NodeRow → NodeRow
row_with_part part row = record row { attrs = part }

-- the rows of nodes, where that at an index has another part of the flat list
abbrev pub put_part : ℕ → Span → List NodeRow → List NodeRow
put_part index part rows =
    option_map_or (λ row. slice_set rows index (row_with_part part row)) (slice_get rows index) rows

-- the attributes of each row are a part of the flat list
abbrev pub HaveParts : List AttrRow → List NodeRow → Type 0
HaveParts attrs rows = AllByRecursion (λ row. row.attrs.first + row.attrs.count ≤ length attrs) rows

-- other rows over another flat list, of the same nodes
pub record AreSameNodes (attrs : List AttrRow) (rows : List NodeRow) (packed : List AttrRow) (placed : List NodeRow)
    : Type 0 where
  pub each : (names : List Characters) → AreRows names attrs rows → AreRows names packed placed
  pub nodes : (names : List Characters) → AreRows names attrs rows
      → map (node_seen names packed) placed ≡ map (node_seen names attrs) rows

-- rows of nodes stay rows, of the same nodes, once there are more names and more attributes
pub record KeepsRows (names : List Characters) (attrs : List AttrRow) (later : List Characters) (longer : List AttrRow)
    : Type 0 where
  pub texts : KeepsTexts names later
  pub rows : (rows : List NodeRow) → AreRows names attrs rows → AreRows later longer rows
  pub nodes : (rows : List NodeRow) → AreRows names attrs rows
      → map (node_seen later longer) rows ≡ map (node_seen names attrs) rows
