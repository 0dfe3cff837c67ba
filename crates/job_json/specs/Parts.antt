-- The parts of a job that limits speak of, each as it is read: the first bad place, or the limit that it passes first.
use Rattle.std.specs.Prelude.{ℕ, List, Option, Ok, option_and_then, codes}
use Rattle.serde_json.specs.Data.{Data}
use Rattle.serde_json.specs.Find.{get, as_array, as_object}
use Rattle.scene_model.specs.Element.{Attributes}
use Rattle.scene_model.specs.Nodes.{Node}
use Rattle.layer_order.specs.declared.sheet_input.SheetInput.{SheetInput}
use Rattle.dom_edits.specs.declared.edits.Edit.{Edit}
use Rattle.job_json.specs.Checked.{Checked, ◌>>=◌}
use Rattle.job_json.specs.Shape.{attrs_in, node_in, nodes_in, sheets_in}
use Rattle.job_json.specs.Edits.{batches_in}
use Rattle.job_json.specs.Limits.{Within, within, attrs_past, items_or_none, nodes_passed, sheets_past, batches_past}

abbrev pub attrs_read : Option Data → Checked (Within Attributes)
attrs_read value = do
  attrs ← attrs_in value
  Ok (within (attrs_past (option_and_then as_object value)) attrs)

-- the node at an index of the list, by its attributes alone
abbrev pub node_read : ℕ → Data → Checked (Within Node)
node_read k value = do
  node ← node_in k value
  Ok (within (attrs_past (option_and_then as_object (get (codes "attrs") value))) node)

abbrev pub nodes_read : Option Data → Checked (Within (List Node))
nodes_read value = do
  nodes ← nodes_in value
  Ok (within (nodes_passed (items_or_none (option_and_then as_array value)) nodes) nodes)

abbrev pub sheets_read : Option Data → Checked (Within (List SheetInput))
sheets_read value = do
  sheets ← sheets_in value
  Ok (within (sheets_past sheets) sheets)

abbrev pub batches_read : Option Data → Checked (Within (List (List Edit)))
batches_read value = do
  batches ← batches_in value
  Ok (within (batches_past batches) batches)
