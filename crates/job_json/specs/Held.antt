-- The nodes of a list as they are kept while it is read: as long as they pass no limit. Of an insertion only the limits
-- that a node passes by itself count.
use Rattle.std.specs.Prelude.{◌≡◌, ◌<◌, ◌≤◌, is_some, ℕ, ◌+◌, ◌-◌, ◌^◌, nat_lt, Bool, true, min, if◌then◌else◌, List, [], ◌∷◌, ◌++◌, length, get_or, Option, Some, None, option_map, Ok, Err}
use Rattle.std.specs.Option.{option_or}
use Rattle.serde_json.specs.Data.{Data}
use Rattle.serde_json.specs.View.{items_of}
use Rattle.base_model.specs.Limits.{element_limit, depth_limit}
use Rattle.stylo_base.specs.declared.refusal.Kind.TheVariants.{Elements, Depth}
use Rattle.scene_model.specs.Nodes.{Node}
use Rattle.dom_edits.specs.declared.edits.NewNodes.{NewNodes}
use Rattle.dom_edits.specs.declared.edits.NewNodes.TheVariants.{Kept, Past}
use Rattle.job_json.specs.Checked.{Checked}
use Rattle.dom_tree.specs.Depths.{depths_of}
use Rattle.job_json.specs.Limits.{Passed, Within, within, past, nodes_past}
use Rattle.job_json.specs.NewNodes.{passed_limit, past_by_itself}

-- the nodes of a list, if there is one
abbrev pub nodes_or_none : Option (List Node) → List Node
nodes_or_none None = []
nodes_or_none (Some nodes) = nodes

-- where there is a list, it is not empty
abbrev pub has_nodes : Option (List Node) → Bool
has_nodes None = true
has_nodes (Some nodes) = nat_lt 0 (length nodes)

pub record Held : Type 0 where
  -- the limit that a node passes first
  pub passed : Option Passed
  -- the nodes before that one, and before there are too many
  pub nodes : List Node
  -- how many nodes come after these
  pub more : ℕ

abbrev pub count_held : Held → ℕ
count_held h = length h.nodes + h.more

-- the depth of a node with this parent, as a number of 64 bits
abbrev pub depth_below : List ℕ → Option ℕ → ℕ
depth_below depths None = 1
depth_below depths (Some p) = min (get_or depths p 0 + 1) (2 ^ 64 - 1)

-- a node, where it is not too deep
abbrev pub node_within : {A : Type 0} → Within A → ℕ → Within A
node_within (Ok node) depth = within (past Depth depth_limit depth) node
node_within (Err passed) depth = Err passed

abbrev pub held_with : Held → Within Node → Held
held_with h (Ok node) = record h { nodes = h.nodes ++ node ∷ [] }
held_with h (Err passed) = record h { passed = Some passed; more = 1 }

-- one more node, below this parent
abbrev pub held_next : Held → Option ℕ → Within Node → Held
held_next h parent node =
    if nat_lt 0 h.more then record h { more = h.more + 1 }
    else if nat_lt (count_held h) element_limit then
    held_with h (node_within node (depth_below (depths_of h.nodes) parent))
    else record h { more = h.more + 1 }

-- the whole list, which is not to be empty
abbrev pub some_held : List Node → Checked (Within (List Node))
some_held [] = Err []
some_held (node ∷ nodes) = Ok (Ok (node ∷ nodes))

abbrev pub held_or : Option Passed → Held → Checked (Within (List Node))
held_or (Some passed) h = Ok (Err passed)
held_or None h = some_held h.nodes

abbrev pub held_at_end : Held → Checked (Within (List Node))
held_at_end h = held_or (option_or (past Elements element_limit (count_held h)) h.passed) h

-- This is kept of these items, whose nodes these are.
pub record IsHeld (ds : List Data) (list : List Node) (h : Held) : Type 0 where
  pub count : length list ≡ count_held h
  pub kept : h.more ≡ 0
      → (h.nodes ≡ list) × (h.passed ≡ None) × (nodes_past (items_of ds) (depths_of list) ≡ None)
  pub past_it : 0 < h.more → length list ≤ element_limit
      → (h.passed ≡ nodes_past (items_of ds) (depths_of list)) × (is_some h.passed ≡ true)

-- The nodes of an insertion.

-- one more node
abbrev pub held_new : Held → Within Node → Held
held_new h node = if nat_lt 0 h.more then record h { more = h.more + 1 } else held_with h node

-- the whole list, which is not to be empty
abbrev pub some_new : List Node → Checked NewNodes
some_new [] = Err []
some_new (node ∷ nodes) = Ok (Kept (node ∷ nodes))

abbrev pub new_or : Option Passed → Held → Checked NewNodes
new_or (Some passed) h = Ok (Past (passed_limit passed))
new_or None h = some_new h.nodes

abbrev pub new_at_end : Held → Checked NewNodes
new_at_end h = new_or h.passed h

-- This is kept of these nodes.
pub record IsNewHeld (list : List Node) (h : Held) : Type 0 where
  pub count : length list ≡ count_held h
  pub kept : h.more ≡ 0 → (h.nodes ≡ list) × (h.passed ≡ None)
  pub past : option_map passed_limit h.passed ≡ past_by_itself list
  pub past_it : 0 < h.more → is_some h.passed ≡ true
