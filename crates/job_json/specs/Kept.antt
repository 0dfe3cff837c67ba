-- What is kept of a job's objects and arrays while they are read.
use Rattle.std.specs.Prelude.{◌≡◌, ℕ, ◌+◌, ◌<◌, ◌≤◌, ◌++◌, List, [], ◌∷◌, length, T, true, false, not, ◌&&◌, ◌||◌, nat_lt, if◌then◌else◌, map, MatchBool}
use Rattle.std.specs.Prelude.{Option, Some, None, option_map, option_and_then, Result, Ok, Err, codes}
use Rattle.std.specs.List.{AllByRecursion, list_all}
use Rattle.std.specs.Ordering.{nat_cmp}
use Rattle.std.specs.Cmp.Lexicographic.{slice_cmp}
use Rattle.std.specs.FinMap.{find, is_sorted}
use Rattle.std.specs.Str.{chars}
use Rattle.serde_json.specs.Data.{Data, Members}
use Rattle.serde_json.specs.Find.{get_member, as_str}
use Rattle.serde_json.specs.View.{items_of}
use Rattle.base_model.specs.Limits.{attribute_limit, sheet_limit}
use Rattle.base_model.specs.Text.{Characters}
use Rattle.scene_model.specs.Element.{Attributes, State}
use Rattle.scene_model.specs.Nodes.{Node}
use Rattle.dom_tree.specs.View.{states_of, pair_of, attributes_of, node_of}
use Rattle.dom_tree.specs.declared.nodes.Attr.{Attr}
use Rattle.layer_order.specs.declared.sheet_input.SheetInput.{SheetInput}
use Rattle.dom_edits.specs.declared.edits.Edit.{Edit}
use Rattle.job_json.specs.declared.slots.Slot.{Slot}
use Rattle.job_json.specs.declared.slots.Slots.{Slots}
use Rattle.job_json.specs.declared.attributes.AttrList.{AttrList}
use Rattle.job_json.specs.declared.states.StateWords.{StateWords}
use Rattle.job_json.specs.declared.node.JudgedNode.{JudgedNode}
use Rattle.job_json.specs.declared.node.NodeParts.{NodeParts}
use Rattle.job_json.specs.declared.kept_nodes.KeptNodes.{KeptNodes}
use Rattle.job_json.specs.declared.new_nodes.NewNodeItems.{NewNodeItems}
use Rattle.job_json.specs.declared.node_list.Nodes.{Nodes}
use Rattle.job_json.specs.declared.sheet.LentSheet.{LentSheet}
use Rattle.job_json.specs.declared.sheet.SheetParts.{SheetParts}
use Rattle.job_json.specs.declared.sheet_items.SheetItems.{SheetItems}
use Rattle.job_json.specs.declared.document.JobParts.{JobParts}
use Rattle.job_json.specs.declared.Job.{Job}
use Rattle.job_json.specs.declared.JobFault.{JobFault}
use Rattle.job_json.specs.declared.JobFault.TheVariants.{Shape, Limit}
use Rattle.job_json.specs.Checked.{Checked, ◌>>=◌, map_ok, wanted, right, at_member}
use Rattle.job_json.specs.Words.{whole, name_of, all_states, is_one, origin_from, enabled_from, named_parent, parent_at}
use Rattle.job_json.specs.Shape.{items_in, state_in, states_in, node_in, sheet_in}
use Rattle.job_json.specs.Limits.{Passed, Within, within, count_of, is_short_text}
use Rattle.job_json.specs.Parts.{attrs_read, nodes_read, sheets_read, batches_read}
use Rattle.job_json.specs.NewNodes.{TellsLimits}
use Rattle.job_json.specs.Held.{Held, IsHeld, IsNewHeld, nodes_or_none}
use Rattle.job_json.specs.Slots.{Pair, AreTexts, slot_pair, put_slot, slots_of, said_by, passed_by, last_at}

-- The items of a list as far as they are read: the first bad place, or as many as they are, and what else holds of
-- them.
abbrev pub AreRead : {A : Type 0} → (ℕ → Data → Checked A) → Option Characters → (List A → Type 0) → List Data → Type 0
AreRead {A} read None Holds ds = (list : List A) × (items_in read 0 (items_of ds) ≡ Ok list) × Holds list
AreRead read (Some path) Holds ds = items_in read 0 (items_of ds) ≡ Err path

-- the members of an object of attributes
pub record AreSlotsOf (s : Slots) (ms : Members) : Type 0 where
  pub rise : T (is_sorted (slice_cmp nat_cmp) (slots_of ms))
  pub texts : AllByRecursion AreTexts (slots_of ms)
  pub few : s.are_many ≡ false → (map slot_pair s.list.items ≡ slots_of ms) × (length s.list.items ≤ attribute_limit)
  pub many : s.are_many ≡ true → (attribute_limit < count_of ms)
      × ((key : List ℕ) → last_at key (map slot_pair s.list.items) ≡ find (slice_cmp nat_cmp) key (slots_of ms))

-- one more member
abbrev pub AddsSlot : Slots → Slot → Slots → Type 0
AddsSlot old slot new =
    MatchBool old.are_many
    ((new.are_many ≡ true) × (new.list.items ≡ old.list.items ++ slot ∷ []))
    (MatchBool new.are_many
    ((attribute_limit < length (put_slot slot old.list.items)) × (new.list.items ≡ old.list.items ++ slot ∷ []))
    ((new.list.items ≡ put_slot slot old.list.items)
    × (length old.list.items ≤ attribute_limit → length new.list.items ≤ attribute_limit)))

abbrev pub slots_read : List Pair → Checked (Within (List (Characters × Characters)))
slots_read pairs = do
  said ← said_by pairs
  Ok (within (passed_by pairs) said)

-- attributes as they are made of these
abbrev pub filled : Checked (Option Passed) → List Attr → Checked (Within (List (Characters × Characters)))
filled passed list = do
  limit ← passed
  Ok (within limit (map pair_of list))

abbrev pub bad_or : {A : Type 0} → Option Characters → A → Checked A
bad_or None a = Ok a
bad_or (Some path) a = Err path

-- a part whose first bad place may be found already
abbrev pub after_bad : {A : Type 0} → Option Characters → Checked A → Checked A
after_bad None part = part
after_bad (Some path) part = Err path

abbrev pub attrs_kept : AttrList → Checked (Within Attributes)
attrs_kept attrs = bad_or attrs.bad (within attrs.passed (attributes_of attrs.list.items))

-- states of which so many are counted
pub record HasStates (s : StateWords) (named : List State) : Type 0 where
  pub count : length named ≡ s.count
  pub states : all_states named ≡ states_of s.states

-- the words of a list of states
abbrev pub AreStatesOf : StateWords → List Data → Type 0
AreStatesOf s ds = AreRead (λ k. state_in) s.bad (HasStates s) ds

-- the members of a node
pub record IsNodeOf (s : NodeParts) (ms : Members) : Type 0 where
  pub tag : option_map (λ t. chars t.now) s.tag ≡ option_and_then name_of (get_member (codes "tag") ms)
  pub parent : s.parent ≡ named_parent (get_member (codes "parent") ms)
  pub attrs : attrs_kept s.attrs ≡ attrs_read (get_member (codes "attrs") ms)
  pub limits : TellsLimits (get_member (codes "attrs") ms)
  pub states : map_ok states_of s.states ≡ states_in (get_member (codes "states") ms)

-- the node at an index
abbrev pub node_kept : ℕ → NodeParts → Checked (Within Node)
node_kept k s = do
  tag ← at_member (codes "tag") (wanted (option_map (λ t. chars t.now) s.tag))
  parent ← at_member (codes "parent") (wanted (option_and_then (parent_at k) s.parent))
  attrs ← at_member (codes "attrs") (attrs_kept s.attrs)
  states ← at_member (codes "states") (map_ok states_of s.states)
  Ok (map_ok (λ a. record { parent = parent; tag = tag; attrs = a; states = states }) attrs)

abbrev pub read_kept : ℕ → NodeParts → Checked (Within Node)
read_kept k s = if s.is_object then node_kept k s else Err []

abbrev pub judged_seen : JudgedNode → Within Node
judged_seen node = map_ok (node_of node.parent) node.input

abbrev pub held_of : KeptNodes → Held
held_of kept = record {
  passed = kept.passed;
  nodes = nodes_or_none kept.list;
  more = kept.more;
}

-- the items of a list of nodes
abbrev pub AreNodesOf : Nodes → List Data → Type 0
AreNodesOf s ds = AreRead node_in s.bad (λ list. IsHeld ds list (held_of s.kept)) ds

-- the items of a list of nodes of an insertion
abbrev pub AreNewNodesOf : NewNodeItems → List Data → Type 0
AreNewNodesOf s ds = AreRead node_in s.bad (λ list. IsNewHeld list (held_of s.kept)) ds

abbrev pub sheet_seen : LentSheet → SheetInput
sheet_seen sheet = record { origin = sheet.origin; enabled = sheet.enabled; text = chars sheet.text.now }

-- the members of a sheet
pub record IsSheetOf (s : SheetParts) (ms : Members) : Type 0 where
  pub origin : s.origin ≡ origin_from (get_member (codes "origin") ms)
  pub enabled : s.enabled ≡ enabled_from (get_member (codes "enabled") ms)
  pub text : option_map (λ t. t.now) s.text ≡ option_and_then as_str (get_member (codes "text") ms)

abbrev pub sheet_kept : SheetParts → Checked SheetInput
sheet_kept s = do
  origin ← at_member (codes "origin") (wanted s.origin)
  enabled ← at_member (codes "enabled") (wanted s.enabled)
  text ← at_member (codes "text") (wanted (option_map chars (option_map (λ t. t.now) s.text)))
  Ok (record { origin = origin; enabled = enabled; text = text })

-- sheets of which so many are counted, and kept as long as they pass no limit
pub record HasSheets (s : SheetItems) (sheets : List SheetInput) : Type 0 where
  pub count : length sheets ≡ s.count
  pub short : list_all is_short_text sheets ≡ not s.is_long
  pub kept : s.is_long ≡ false → length sheets ≤ sheet_limit → s.list.items ≡ sheets

-- the items of a list of sheets
abbrev pub AreSheetsOf : SheetItems → List Data → Type 0
AreSheetsOf s ds = AreRead (λ k. sheet_in) s.bad (HasSheets s) ds

-- one more sheet
pub record KeepsSheet (old : SheetItems) (sheet : SheetInput) (new : SheetItems) : Type 0 where
  pub bad : new.bad ≡ old.bad
  pub count : new.count ≡ old.count + 1
  pub long : new.is_long ≡ (old.is_long || not (is_short_text sheet))
  pub list : new.list.items
      ≡ (if not new.is_long && nat_lt old.count sheet_limit then old.list.items ++ sheet ∷ [] else old.list.items)

-- the members of a job
pub record IsJobOf (s : JobParts) (ms : Members) : Type 0 where
  pub version : s.is_version ≡ is_one (option_and_then whole (get_member (codes "version") ms))
  pub nodes : s.nodes ≡ nodes_read (get_member (codes "nodes") ms)
  pub sheets : s.sheets ≡ sheets_read (get_member (codes "sheets") ms)
  pub batches : s.batches ≡ batches_read (get_member (codes "batches") ms)

-- the job of these parts, or the limit that they pass first
abbrev pub whole_job : Within (List Node) → Within (List SheetInput) → Within (List (List Edit)) → Result Job JobFault
whole_job (Err passed) sheets batches = Err (Limit passed.0 passed.1)
whole_job (Ok nodes) (Err passed) batches = Err (Limit passed.0 passed.1)
whole_job (Ok nodes) (Ok sheets) (Err passed) = Err (Limit passed.0 passed.1)
whole_job (Ok nodes) (Ok sheets) (Ok batches) = Ok (record { nodes = nodes; sheets = sheets; batches = batches })

abbrev pub shaped : Checked (Result Job JobFault) → Result Job JobFault
shaped (Ok answer) = answer
shaped (Err path) = Err (Shape path)

abbrev pub job_kept : JobParts → Result Job JobFault
job_kept s = shaped (do
  version ← at_member (codes "version") (right s.is_version)
  nodes ← at_member (codes "nodes") s.nodes
  sheets ← at_member (codes "sheets") s.sheets
  batches ← at_member (codes "batches") s.batches
  Ok (whole_job nodes sheets batches))

-- what is left of it where the sheets have the right shape, where the nodes have it, and where the version is right
abbrev pub job_of_sheets : Within (List Node) → Within (List SheetInput) → Checked (Within (List (List Edit)))
    → Result Job JobFault
job_of_sheets nodes sheets checked = shaped (do
  batches ← at_member (codes "batches") checked
  Ok (whole_job nodes sheets batches))

abbrev pub job_of_nodes : Within (List Node) → Checked (Within (List SheetInput))
    → Checked (Within (List (List Edit))) → Result Job JobFault
job_of_nodes nodes sheets batches = shaped (do
  sheets ← at_member (codes "sheets") sheets
  batches ← at_member (codes "batches") batches
  Ok (whole_job nodes sheets batches))

abbrev pub job_of_parts : Checked (Within (List Node)) → Checked (Within (List SheetInput))
    → Checked (Within (List (List Edit))) → Result Job JobFault
job_of_parts nodes sheets batches = shaped (do
  nodes ← at_member (codes "nodes") nodes
  sheets ← at_member (codes "sheets") sheets
  batches ← at_member (codes "batches") batches
  Ok (whole_job nodes sheets batches))
