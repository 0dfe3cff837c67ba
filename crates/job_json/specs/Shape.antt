-- The shape of a job's nodes and sheets, in reading order: what a JSON value says as one, or the first place where it
-- is none. Members other than those named are passed over.
use Rattle.std.specs.Prelude.{ℕ, ◌+◌, Bool, not, List, [], ◌∷◌, Option, Some, None, Ok, option_map, option_and_then, codes}
use Rattle.std.specs.Str.{chars}
use Rattle.std.specs.FinMap as map
use Rattle.serde_json.specs.Data.{Data, Items, no_items, item, Members, no_members, member}
use Rattle.serde_json.specs.Find.{get_member, as_str, as_array, as_object}
use Rattle.scene_model.specs.Element.{Characters, Attributes, State, States}
use Rattle.scene_model.specs.Nodes.{Node}
use Rattle.layer_order.specs.declared.origin.Origin.{Origin}
use Rattle.layer_order.specs.declared.sheet_input.SheetInput.{SheetInput}
use Rattle.job_json.specs.Checked.{Checked, ◌>>=◌, wanted, right, at_member, at_index}
use Rattle.job_json.specs.Words.{name_of, named_parent, parent_at, pair_from, state_named, no_states, all_states}
use Rattle.job_json.specs.Words.{has_no_items, origin_from, enabled_from}

abbrev pub object_in : Data → Checked Members
object_in value = wanted (as_object value)

abbrev pub array_in : Data → Checked Items
array_in value = wanted (as_array value)

-- A member may be absent; what is read of it says whether that is right.
abbrev pub member_in : {A : Type 0} → List ℕ → (Option Data → Checked A) → Members → Checked A
member_in key read members = at_member key (read (get_member key members))

-- each item, from this index on
abbrev pub items_in : {A : Type 0} → (ℕ → Data → Checked A) → ℕ → Items → Checked (List A)
items_in read k no_items = Ok []
items_in read k (item value rest) = do
  first ← at_index k (read k value)
  more ← items_in read (k + 1) rest
  Ok (first ∷ more)

abbrev pub name_in : Option Data → Checked Characters
name_in value = wanted (option_and_then name_of value)

abbrev pub parent_in : ℕ → Option Data → Checked (Option ℕ)
parent_in k value = wanted (option_and_then (parent_at k) (named_parent value))

-- a name, and a text under it
abbrev pub pairs_in : Members → Checked (List (Characters × Characters))
pairs_in no_members = Ok []
pairs_in (member key value rest) = do
  pair ← at_member key (wanted (pair_from key (as_str value)))
  pairs ← pairs_in rest
  Ok (pair ∷ pairs)

-- an object that may be absent
abbrev pub attrs_in : Option Data → Checked Attributes
attrs_in None = Ok map.empty
attrs_in (Some value) = do
  members ← object_in value
  pairs ← pairs_in members
  Ok (map.from_entries pairs)

abbrev pub state_in : Data → Checked State
state_in value = wanted (option_and_then state_named (as_str value))

-- a list that may be absent
abbrev pub states_in : Option Data → Checked States
states_in None = Ok no_states
states_in (Some value) = do
  items ← array_in value
  named ← items_in (λ k. state_in) 0 items
  Ok (all_states named)

-- the node with these members, at an index of the list
abbrev pub node_of : ℕ → Members → Checked Node
node_of k members = do
  tag ← member_in (codes "tag") name_in members
  parent ← member_in (codes "parent") (parent_in k) members
  attrs ← member_in (codes "attrs") attrs_in members
  states ← member_in (codes "states") states_in members
  Ok (record { parent = parent; tag = tag; attrs = attrs; states = states })

abbrev pub node_in : ℕ → Data → Checked Node
node_in k value = do
  members ← object_in value
  node_of k members

-- the list is not empty
abbrev pub some_nodes : Items → Checked (List Node)
some_nodes items = do
  some ← right (not (has_no_items (Some items)))
  items_in node_in 0 items

abbrev pub nodes_in : Option Data → Checked (List Node)
nodes_in value = do
  items ← wanted (option_and_then as_array value)
  some_nodes items

abbrev pub origin_in : Option Data → Checked Origin
origin_in value = wanted (origin_from value)

abbrev pub enabled_in : Option Data → Checked Bool
enabled_in value = wanted (enabled_from value)

abbrev pub text_in : Option Data → Checked Characters
text_in value = wanted (option_map chars (option_and_then as_str value))

-- the sheet with these members
abbrev pub sheet_of : Members → Checked SheetInput
sheet_of members = do
  origin ← member_in (codes "origin") origin_in members
  enabled ← member_in (codes "enabled") enabled_in members
  text ← member_in (codes "text") text_in members
  Ok (record { origin = origin; enabled = enabled; text = text })

abbrev pub sheet_in : Data → Checked SheetInput
sheet_in value = do
  members ← object_in value
  sheet_of members

-- a list that may be absent
abbrev pub sheets_in : Option Data → Checked (List SheetInput)
sheets_in None = Ok []
sheets_in (Some value) = do
  items ← array_in value
  items_in (λ k. sheet_in) 0 items
