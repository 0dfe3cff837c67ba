-- The limits of a job: which one is passed first.
use Rattle.std.specs.Prelude.{ℕ, ◌+◌, nat_le, Bool, if◌then◌else◌, List, [], ◌∷◌, length, Option, Some, None, Result, Ok, Err, option_and_then, codes, encode_utf8_all}
use Rattle.std.specs.Option.{option_or}
use Rattle.serde_json.specs.Data.{Data, Items, no_items, item, Members, no_members, member}
use Rattle.serde_json.specs.Find.{get, as_str, as_array, as_object}
use Rattle.base_model.specs.Limits.{element_limit, depth_limit, attribute_limit, value_limit, sheet_limit, text_limit, batch_limit}
use Rattle.stylo_base.specs.declared.refusal.Kind.{Kind}
use Rattle.stylo_base.specs.declared.refusal.Kind.TheVariants.{Elements, Depth, Attributes, Value, Sheets, Text, Batches}
use Rattle.scene_model.specs.Nodes.{Node}
use Rattle.dom_tree.specs.Depths.{depths_of}
use Rattle.layer_order.specs.declared.sheet_input.SheetInput.{SheetInput}
use Rattle.job_json.specs.declared.Job.{Job}

-- the kind of a limit, with its number
abbrev pub Passed : Type 0
Passed = Kind × ℕ

-- a part of the right shape, or the limit that it passes first
abbrev pub Within : Type 0 → Type 0
Within A = Result A Passed

abbrev pub within : {A : Type 0} → Option Passed → A → Within A
within None a = Ok a
within (Some passed) a = Err passed

abbrev pub past : Kind → ℕ → ℕ → Option Passed
past kind most amount = if nat_le amount most then None else Some (kind, most)

-- in bytes
abbrev pub value_past : Option (List ℕ) → Option Passed
value_past None = None
value_past (Some text) = past Value value_limit (length text)

abbrev pub values_past : Members → Option Passed
values_past no_members = None
values_past (member key value rest) = option_or (value_past (as_str value)) (values_past rest)

-- how many attributes a node has: an object has each key once
abbrev pub count_of : Members → ℕ
count_of no_members = 0
count_of (member key value rest) = 1 + count_of rest

abbrev pub attrs_past : Option Members → Option Passed
attrs_past None = None
attrs_past (Some members) = option_or (past Attributes attribute_limit (count_of members)) (values_past members)

-- the limits of one node: its attributes, their values, its depth
abbrev pub node_past : Data → ℕ → Option Passed
node_past value depth =
    option_or (attrs_past (option_and_then as_object (get (codes "attrs") value))) (past Depth depth_limit depth)

-- node by node
abbrev pub nodes_past : Items → List ℕ → Option Passed
nodes_past no_items depths = None
nodes_past (item value rest) [] = None
nodes_past (item value rest) (depth ∷ depths) = option_or (node_past value depth) (nodes_past rest depths)

-- the bytes of its text in UTF-8
abbrev pub is_short_text : SheetInput → Bool
is_short_text sheet = nat_le (length (encode_utf8_all sheet.text)) text_limit

abbrev pub text_past : SheetInput → Option Passed
text_past sheet = if is_short_text sheet then None else Some (Text, text_limit)

abbrev pub texts_past : List SheetInput → Option Passed
texts_past [] = None
texts_past (sheet ∷ sheets) = option_or (text_past sheet) (texts_past sheets)

abbrev pub count_past : List SheetInput → Option Passed
count_past sheets = past Sheets sheet_limit (length sheets)

-- how many there are, and then each text
abbrev pub sheets_past : List SheetInput → Option Passed
sheets_past sheets = option_or (count_past sheets) (texts_past sheets)

abbrev pub batches_past : {A : Type 0} → List A → Option Passed
batches_past batches = past Batches batch_limit (length batches)

-- the elements, and then each node
abbrev pub nodes_passed : Items → List Node → Option Passed
nodes_passed items nodes = option_or (past Elements element_limit (length nodes)) (nodes_past items (depths_of nodes))

abbrev pub items_or_none : Option Items → Items
items_or_none None = no_items
items_or_none (Some items) = items

abbrev pub node_items : Data → Items
node_items value = items_or_none (option_and_then as_array (get (codes "nodes") value))

-- the document, the sheets, and then the batches
abbrev pub first_passed : Data → Job → Option Passed
first_passed value job =
    option_or (nodes_passed (node_items value) job.nodes)
    (option_or (sheets_past job.sheets) (batches_past job.batches))
