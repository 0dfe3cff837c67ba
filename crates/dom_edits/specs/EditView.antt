-- What the edits of the code, and their refusals, stand for.
use Rattle.std.specs.Prelude.{◌≡◌, ℕ, zero, suc, ◌+◌, List, [], ◌∷◌, length, replicate, Option, Some, None, false, option_map}
use Rattle.std.specs.FinMap as finmap
use Rattle.base_model.specs.Limits.{attribute_limit, value_limit}
use Rattle.base_model.specs.Text.{Characters}
use Rattle.scene_model.specs.Document.{Document}
use Rattle.scene_model.specs.Element.{Attributes}
use Rattle.scene_model.specs.Nodes.{Node, IsNodeList}
use Rattle.layer_order.specs.View.{origin_of}
use Rattle.stylo_base.specs.StateView.{state_seen}
use Rattle.stylo_base.specs.declared.refusal.Kind.{Kind}
use Rattle.stylo_base.specs.declared.refusal.Kind.TheVariants.{Elements, Numbers, Depth, Attributes as AttributeKind, Value as ValueKind, Sheets, Text}
use Rattle.stylo_base.specs.declared.refusal.EditRefused.{EditRefused}
use Rattle.stylo_base.specs.declared.refusal.EditRefused.TheVariants.{UnknownNode, UnknownSheet, BadPlace, Limit}
use Rattle.edit_model.specs.Apply.{nodes_past}
use Rattle.edit_model.specs.Edit as model
use Rattle.edit_model.specs.Sizes.{letters, many}
use Rattle.edit_model.specs.Refusal.{LimitKind, element_count, number_count, tree_depth, attribute_count, value_bytes, sheet_count, text_bytes}
use Rattle.edit_model.specs.Refusal.{Refusal, unknown_node, unknown_sheet, bad_place, limit}
use Rattle.dom_edits.specs.declared.edits.DocEdit.{DocEdit}
use Rattle.dom_edits.specs.declared.edits.DocEdit.TheVariants.{Insert, Remove, Move, Set, Unset, State}
use Rattle.dom_edits.specs.declared.edits.NewNodes.{NewNodes}
use Rattle.dom_edits.specs.declared.edits.NewNodes.TheVariants.{Kept, Past}
use Rattle.dom_edits.specs.declared.edits.NodeLimit.{NodeLimit}
use Rattle.dom_edits.specs.declared.edits.NodeLimit.TheVariants.{Attributes as many_attributes, Value as long_value}
use Rattle.dom_edits.specs.declared.edits.SheetEdit.{SheetEdit}
use Rattle.dom_edits.specs.declared.edits.SheetEdit.TheVariants as sheet_edits
use Rattle.dom_edits.specs.declared.edits.Edit.{Edit}
use Rattle.dom_edits.specs.declared.edits.Edit.TheVariants.{Document as of_document, Sheets as of_sheets}

-- Nodes that pass a limit, of which the others are not kept: one of them stands for all.

-- a root with these attributes
abbrev pub root_with : Attributes → List Node
root_with attrs = record {
  parent = None;
  tag = [];
  attrs = attrs;
  states = record { hover = false; active = false; focus = false };
} ∷ []

-- with one attribute too many, and with a value that is too long by a byte
unfoldable pub nodes_beyond : NodeLimit → List Node
nodes_beyond many_attributes = root_with (many (attribute_limit + 1))
nodes_beyond long_value = root_with (finmap.insert finmap.empty [] (letters (value_limit + 1)))

-- the refusal by a limit that a node passes by itself
abbrev pub refused_by : NodeLimit → Refusal
refused_by many_attributes = limit attribute_count attribute_limit
refused_by long_value = limit value_bytes value_limit

abbrev pub nodes_seen : NewNodes → List Node
nodes_seen (Kept nodes) = nodes
nodes_seen (Past which) = nodes_beyond which

abbrev pub doc_edit_seen : DocEdit → model.DocEdit
doc_edit_seen (Insert parent index nodes) = model.insert parent index (nodes_seen nodes)
doc_edit_seen (Remove node) = model.remove node
doc_edit_seen (Move node parent index) = model.move node parent index
doc_edit_seen (Set node name value) = model.set node name value
doc_edit_seen (Unset node name) = model.unset node name
doc_edit_seen (State node state on) = model.set_state node (state_seen state) on

-- how many nodes it puts in: those that are not kept don't count
abbrev pub kept_count : NewNodes → ℕ
kept_count (Kept nodes) = length nodes
kept_count (Past which) = 0

abbrev pub new_count : DocEdit → ℕ
new_count (Insert parent index nodes) = kept_count nodes
new_count edit = 0

-- These are the nodes, or some of which that limit is the first that one passes by itself.
abbrev pub AreNewNodes : NewNodes → List Node → Type 0
AreNewNodes (Kept kept) nodes = nodes ≡ kept
AreNewNodes (Past which) nodes = IsNodeList nodes × (nodes_past nodes ≡ Some (refused_by which))

-- The edits that one stands for. An insertion whose nodes are not kept stands for that of all such nodes.
abbrev pub Says : DocEdit → model.DocEdit → Type 0
Says (Insert parent index new) (model.insert p i nodes) = (parent ≡ p) × (index ≡ i) × AreNewNodes new nodes
Says edit said = doc_edit_seen edit ≡ said

abbrev pub sheet_edit_seen : SheetEdit → model.SheetEdit
sheet_edit_seen (sheet_edits.Add index origin enabled text) = model.add_sheet index (origin_of origin) enabled text
sheet_edit_seen (sheet_edits.Remove sheet) = model.remove_sheet sheet
sheet_edit_seen (sheet_edits.Replace sheet text) = model.replace_sheet sheet text
sheet_edit_seen (sheet_edits.Enable sheet on) = model.enable_sheet sheet on

abbrev pub edit_seen : Edit → model.Edit
edit_seen (of_document edit) = model.of_document (doc_edit_seen edit)
edit_seen (of_sheets edit) = model.of_sheets (sheet_edit_seen edit)

-- the kind of a limit, as it is answered
abbrev pub kind_answered : LimitKind → Kind
kind_answered element_count = Elements
kind_answered number_count = Numbers
kind_answered tree_depth = Depth
kind_answered attribute_count = AttributeKind
kind_answered value_bytes = ValueKind
kind_answered sheet_count = Sheets
kind_answered text_bytes = Text

-- a refusal, as it is answered
abbrev pub refusal_answered : Refusal → EditRefused
refusal_answered (unknown_node n) = UnknownNode n
refusal_answered (unknown_sheet n) = UnknownSheet n
refusal_answered bad_place = BadPlace
refusal_answered (limit kind most) = Limit (kind_answered kind) most
