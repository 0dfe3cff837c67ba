-- The edits of a job, in reading order: what a JSON value says as one, or the first place where it is none.
use Rattle.std.specs.Prelude.{ℕ, Bool, List, [], Option, Some, None, Ok, Err, option_map, option_and_then, if◌then◌else◌, codes}
use Rattle.std.specs.Str.{bytes_eq}
use Rattle.serde_json.specs.Data.{Data, Members}
use Rattle.serde_json.specs.Find.{as_str, as_bool}
use Rattle.base_model.specs.State as model
use Rattle.stylo_base.specs.declared.state.State.{State}
use Rattle.stylo_base.specs.declared.state.State.TheVariants.{Hover, Active, Focus}
use Rattle.dom_edits.specs.declared.edits.DocEdit.TheVariants as doc
use Rattle.dom_edits.specs.declared.edits.Edit.{Edit}
use Rattle.dom_edits.specs.declared.edits.SheetEdit.TheVariants as sheets
use Rattle.dom_edits.specs.declared.edits.Edit.TheVariants.{Document, Sheets}
use Rattle.job_json.specs.Checked.{Checked, ◌>>=◌, wanted, at_member}
use Rattle.job_json.specs.Words.{whole, state_named}
use Rattle.job_json.specs.Shape.{object_in, array_in, member_in, items_in, name_in, text_in, sheet_of}
use Rattle.job_json.specs.NewNodes.{new_nodes_in}

-- the number of an element or of a sheet, or an index, there or not
abbrev pub number_in : Option Data → Checked ℕ
number_in value = wanted (option_and_then whole value)

abbrev pub state_answered : model.State → State
state_answered model.hover_state = Hover
state_answered model.active_state = Active
state_answered model.focus_state = Focus

abbrev pub state_from : Option Data → Option State
state_from value = option_map state_answered (option_and_then state_named (option_and_then as_str value))

abbrev pub edit_state_in : Option Data → Checked State
edit_state_in value = wanted (state_from value)

abbrev pub on_in : Option Data → Checked Bool
on_in value = wanted (option_and_then as_bool value)

abbrev pub word_in : Option Data → Checked (List ℕ)
word_in value = wanted (option_and_then as_str value)

abbrev pub insert_of : Members → Checked Edit
insert_of members = do
  parent ← member_in (codes "parent") number_in members
  index ← member_in (codes "index") number_in members
  nodes ← member_in (codes "nodes") new_nodes_in members
  Ok (Document (doc.Insert parent index nodes))

abbrev pub remove_of : Members → Checked Edit
remove_of members = do
  node ← member_in (codes "node") number_in members
  Ok (Document (doc.Remove node))

abbrev pub move_of : Members → Checked Edit
move_of members = do
  node ← member_in (codes "node") number_in members
  parent ← member_in (codes "parent") number_in members
  index ← member_in (codes "index") number_in members
  Ok (Document (doc.Move node parent index))

abbrev pub set_of : Members → Checked Edit
set_of members = do
  node ← member_in (codes "node") number_in members
  name ← member_in (codes "name") name_in members
  value ← member_in (codes "value") text_in members
  Ok (Document (doc.Set node name value))

abbrev pub unset_of : Members → Checked Edit
unset_of members = do
  node ← member_in (codes "node") number_in members
  name ← member_in (codes "name") name_in members
  Ok (Document (doc.Unset node name))

abbrev pub state_of : Members → Checked Edit
state_of members = do
  node ← member_in (codes "node") number_in members
  state ← member_in (codes "state") edit_state_in members
  on ← member_in (codes "on") on_in members
  Ok (Document (doc.State node state on))

-- The sheet that is added has the members of a job's.
abbrev pub add_sheet_of : Members → Checked Edit
add_sheet_of members = do
  index ← member_in (codes "index") number_in members
  sheet ← sheet_of members
  Ok (Sheets (sheets.Add index sheet.origin sheet.enabled sheet.text))

abbrev pub remove_sheet_of : Members → Checked Edit
remove_sheet_of members = do
  sheet ← member_in (codes "sheet") number_in members
  Ok (Sheets (sheets.Remove sheet))

abbrev pub replace_sheet_of : Members → Checked Edit
replace_sheet_of members = do
  sheet ← member_in (codes "sheet") number_in members
  text ← member_in (codes "text") text_in members
  Ok (Sheets (sheets.Replace sheet text))

abbrev pub enable_sheet_of : Members → Checked Edit
enable_sheet_of members = do
  sheet ← member_in (codes "sheet") number_in members
  on ← member_in (codes "on") on_in members
  Ok (Sheets (sheets.Enable sheet on))

-- a word that is bad itself, since no edit has it
abbrev pub no_edit : Checked Edit
no_edit = at_member (codes "op") (Err [])

-- the edit with this word and these members
abbrev pub edit_by : List ℕ → Members → Checked Edit
edit_by word members =
    if bytes_eq word (codes "insert") then insert_of members
    else if bytes_eq word (codes "remove") then remove_of members
    else if bytes_eq word (codes "move") then move_of members
    else if bytes_eq word (codes "set") then set_of members
    else if bytes_eq word (codes "unset") then unset_of members
    else if bytes_eq word (codes "state") then state_of members
    else if bytes_eq word (codes "add_sheet") then add_sheet_of members
    else if bytes_eq word (codes "remove_sheet") then remove_sheet_of members
    else if bytes_eq word (codes "replace_sheet") then replace_sheet_of members
    else if bytes_eq word (codes "enable_sheet") then enable_sheet_of members
    else no_edit

abbrev pub edit_of : Members → Checked Edit
edit_of members = do
  word ← member_in (codes "op") word_in members
  edit_by word members

abbrev pub edit_in : Data → Checked Edit
edit_in value = do
  members ← object_in value
  edit_of members

abbrev pub batch_in : Data → Checked (List Edit)
batch_in value = do
  items ← array_in value
  items_in (λ k. edit_in) 0 items

-- a list that may be absent
abbrev pub batches_in : Option Data → Checked (List (List Edit))
batches_in None = Ok []
batches_in (Some value) = do
  items ← array_in value
  items_in (λ k. batch_in) 0 items
