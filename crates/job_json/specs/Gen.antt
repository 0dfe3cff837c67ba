-- The job that a number makes. What it has of its own is drawn, one after another: for each node its tag, its class and
-- whether it has an id, and then for each edit which it is, of which element, and what it needs besides.
use Rattle.std.specs.Prelude.{ℕ, ◌+◌, ◌-◌, ◌/◌, ◌==◌, true, if◌then◌else◌, List, [], ◌∷◌, ◌++◌, Option, Some, None, codes, decimal}
use Rattle.std.specs.FinMap as map
use Rattle.scene_model.specs.Element.{Characters}
use Rattle.scene_model.specs.Nodes.{Node}
use Rattle.stylo_base.specs.declared.state.State.TheVariants.{Hover}
use Rattle.layer_order.specs.declared.origin.Origin.TheVariants.{Author}
use Rattle.layer_order.specs.declared.sheet_input.SheetInput.{SheetInput}
use Rattle.dom_edits.specs.declared.edits.DocEdit.{DocEdit}
use Rattle.dom_edits.specs.declared.edits.DocEdit.TheVariants as doc
use Rattle.dom_edits.specs.declared.edits.NewNodes.TheVariants.{Kept}
use Rattle.dom_edits.specs.declared.edits.Edit.{Edit}
use Rattle.dom_edits.specs.declared.edits.Edit.TheVariants.{Document}
use Rattle.job_json.specs.declared.Job.{Job}
use Rattle.job_json.specs.Words.{no_states}
use Rattle.job_json.specs.Draws.{Drawing, draw, given, ◌>>=◌, drawn_list}

-- the tag that a draw below 4 chooses
abbrev pub tag_text : ℕ → Characters
tag_text k = if k == 0 then codes "p" else if k == 1 then codes "i" else if k == 2 then codes "b" else codes "u"

-- the class that a draw below 16 chooses: `c0` to `c15`
abbrev pub class_text : ℕ → Characters
class_text k = codes "c" ++ decimal k

-- the id of the node at an index, if it has one
abbrev pub id_text : ℕ → Characters
id_text index = codes "n" ++ decimal index

abbrev pub class_attr : ℕ → Characters × Characters
class_attr k = (codes "class", class_text k)

-- one in eight has an id: where the draw below 8 is 0
abbrev pub attrs_of : ℕ → ℕ → ℕ → List (Characters × Characters)
attrs_of index k chance =
    if chance == 0 then class_attr k ∷ (codes "id", id_text index) ∷ []
    else class_attr k ∷ []

abbrev pub plain_node : Option ℕ → Characters → List (Characters × Characters) → Node
plain_node parent tag attrs = record {
  parent = parent;
  tag = tag;
  attrs = map.from_entries attrs;
  states = no_states;
}

abbrev pub html : Node
html = plain_node None (codes "html") []

-- The node at an index from 1. Each node has up to four children.
abbrev pub drawn_node : ℕ → Drawing Node
drawn_node index = do
  tag ← draw 4
  class ← draw 16
  chance ← draw 8
  given (plain_node (Some ((index - 1) / 4)) (tag_text tag) (attrs_of index class chance))

-- the nodes of a document of so many
abbrev pub drawn_nodes : ℕ → Drawing (List Node)
drawn_nodes nodes = do
  rest ← drawn_list drawn_node (nodes - 1) 1
  given (html ∷ rest)

abbrev pub sheet_text : Characters
sheet_text =
    codes "p{color:red}.c1 .c2{color:blue}.c3>.c4{width:1em}.c5+.c6{height:2em}.c7~.c8 i{margin:1px}"
    ++ codes ":nth-child(3n+1){padding:2px}.c9:hover b{color:lime}#n8{font-size:larger}u:empty{--k:1px}"

abbrev pub the_sheet : SheetInput
the_sheet = record { origin = Author; enabled = true; text = sheet_text }

-- the edits of the element with number n

abbrev pub drawn_set : ℕ → Drawing DocEdit
drawn_set n = do
  class ← draw 16
  given (doc.Set n (codes "class") (class_text class))

abbrev pub drawn_state : ℕ → Drawing DocEdit
drawn_state n = do
  on ← draw 2
  given (doc.State n Hover (on == 1))

-- the node that an insertion puts in, by what was drawn for its tag and its class
abbrev pub inserted_node : ℕ → ℕ → Node
inserted_node tag class = plain_node None (tag_text tag) (class_attr class ∷ [])

abbrev pub drawn_insert : ℕ → Drawing DocEdit
drawn_insert n = do
  tag ← draw 4
  class ← draw 16
  given (doc.Insert n 0 (Kept (inserted_node tag class ∷ [])))

-- the one that a draw below 4 chooses
abbrev pub drawn_by : ℕ → ℕ → Drawing DocEdit
drawn_by which n =
    if which == 0 then drawn_set n
    else if which == 1 then drawn_state n
    else if which == 2 then drawn_insert n
    else given (doc.Remove n)

-- An edit of an element of a document that had so many at first. It may be there no more.
abbrev pub drawn_edit : ℕ → Drawing Edit
drawn_edit nodes = do
  which ← draw 4
  place ← draw nodes
  edit ← drawn_by which (1 + place)
  given (Document edit)

abbrev pub drawn_batch : ℕ → Drawing (List Edit)
drawn_batch nodes = drawn_list (λ _. drawn_edit nodes) 4 0

abbrev pub drawn_batches : ℕ → ℕ → Drawing (List (List Edit))
drawn_batches nodes batches = drawn_list (λ _. drawn_batch nodes) batches 0

abbrev pub drawn_job : ℕ → ℕ → Drawing Job
drawn_job nodes batches = do
  list ← drawn_nodes nodes
  edits ← drawn_batches nodes batches
  given (record { nodes = list; sheets = the_sheet ∷ []; batches = edits })

-- The job of a number, with so many nodes and batches: the number is the generator's first state.
unfoldable pub generated : ℕ → ℕ → ℕ → Job
generated seed nodes batches = (drawn_job nodes batches seed).0
