-- What is kept of a job's batches and their edits while they are read.
use Rattle.std.specs.Prelude.{◌≡◌, ℕ, ◌+◌, ◌≤◌, nat_lt, ◌++◌, List, [], ◌∷◌, length, map, if◌then◌else◌, Vec, Ok, option_map, option_and_then, codes}
use Rattle.std.specs.declared.alloc.Global.{Global}
use Rattle.std.specs.Str.{chars, bytes_eq}
use Rattle.serde_json.specs.Data.{Data, Members}
use Rattle.serde_json.specs.Find.{get_member, as_str, as_bool}
use Rattle.base_model.specs.Limits.{batch_limit}
use Rattle.dom_edits.specs.declared.edits.DocEdit.TheVariants as doc
use Rattle.dom_edits.specs.declared.edits.Edit.{Edit}
use Rattle.dom_edits.specs.declared.edits.SheetEdit.{SheetEdit}
use Rattle.dom_edits.specs.declared.edits.SheetEdit.TheVariants as sheets
use Rattle.dom_edits.specs.declared.edits.Edit.TheVariants.{Document, Sheets}
use Rattle.job_json.specs.declared.edit.EditParts.{EditParts}
use Rattle.job_json.specs.declared.edit.LentEdit.{LentEdit}
use Rattle.job_json.specs.declared.edit.LentEdit.TheVariants.{Insert, Remove, Move, Set, Unset, State, Sheets as of_sheets}
use Rattle.job_json.specs.declared.sheet_edit.LentSheetEdit.{LentSheetEdit}
use Rattle.job_json.specs.declared.sheet_edit.LentSheetEdit.TheVariants as lent
use Rattle.job_json.specs.declared.edit_items.EditItems.{EditItems}
use Rattle.job_json.specs.declared.batch_items.BatchItems.{BatchItems}
use Rattle.job_json.specs.Checked.{Checked, ◌>>=◌, wanted, at_member}
use Rattle.job_json.specs.Words.{whole, name_of}
use Rattle.job_json.specs.NewNodes.{new_nodes_in}
use Rattle.job_json.specs.Edits.{state_from, no_edit, edit_in, batch_in}
use Rattle.job_json.specs.Kept.{AreRead, IsSheetOf, sheet_kept}

-- an edit of sheets whose text stands in the input
abbrev pub lent_sheets_seen : LentSheetEdit → SheetEdit
lent_sheets_seen (lent.Add index sheet) = sheets.Add index sheet.origin sheet.enabled (chars sheet.text.now)
lent_sheets_seen (lent.Remove sheet) = sheets.Remove sheet
lent_sheets_seen (lent.Replace sheet text) = sheets.Replace sheet (chars text.now)
lent_sheets_seen (lent.Enable sheet on) = sheets.Enable sheet on

-- an edit whose texts stand in the input
abbrev pub lent_seen : LentEdit → Edit
lent_seen (Insert parent index nodes) = Document (doc.Insert parent index nodes)
lent_seen (Remove node) = Document (doc.Remove node)
lent_seen (Move node parent index) = Document (doc.Move node parent index)
lent_seen (Set node name value) = Document (doc.Set node (chars name.now) (chars value.now))
lent_seen (Unset node name) = Document (doc.Unset node (chars name.now))
lent_seen (State node state on) = Document (doc.State node state on)
lent_seen (of_sheets edit) = Sheets (lent_sheets_seen edit)

-- the members of an edit
pub record IsEditOf (s : EditParts) (ms : Members) : Type 0 where
  pub op : option_map (λ t. t.now) s.op ≡ option_and_then as_str (get_member (codes "op") ms)
  pub node : s.node ≡ option_and_then whole (get_member (codes "node") ms)
  pub parent : s.parent ≡ option_and_then whole (get_member (codes "parent") ms)
  pub index : s.index ≡ option_and_then whole (get_member (codes "index") ms)
  pub nodes : s.nodes ≡ new_nodes_in (get_member (codes "nodes") ms)
  pub name : option_map (λ t. chars t.now) s.name ≡ option_and_then name_of (get_member (codes "name") ms)
  pub value : option_map (λ t. t.now) s.value ≡ option_and_then as_str (get_member (codes "value") ms)
  pub state : s.state ≡ state_from (get_member (codes "state") ms)
  pub on : s.on ≡ option_and_then as_bool (get_member (codes "on") ms)
  pub sheet : s.sheet ≡ option_and_then whole (get_member (codes "sheet") ms)
  pub input : IsSheetOf s.input ms

abbrev pub insert_kept : EditParts → Checked Edit
insert_kept s = do
  parent ← at_member (codes "parent") (wanted s.parent)
  index ← at_member (codes "index") (wanted s.index)
  nodes ← at_member (codes "nodes") s.nodes
  Ok (Document (doc.Insert parent index nodes))

abbrev pub remove_kept : EditParts → Checked Edit
remove_kept s = do
  node ← at_member (codes "node") (wanted s.node)
  Ok (Document (doc.Remove node))

abbrev pub move_kept : EditParts → Checked Edit
move_kept s = do
  node ← at_member (codes "node") (wanted s.node)
  parent ← at_member (codes "parent") (wanted s.parent)
  index ← at_member (codes "index") (wanted s.index)
  Ok (Document (doc.Move node parent index))

abbrev pub set_kept : EditParts → Checked Edit
set_kept s = do
  node ← at_member (codes "node") (wanted s.node)
  name ← at_member (codes "name") (wanted (option_map (λ t. chars t.now) s.name))
  value ← at_member (codes "value") (wanted (option_map chars (option_map (λ t. t.now) s.value)))
  Ok (Document (doc.Set node name value))

abbrev pub unset_kept : EditParts → Checked Edit
unset_kept s = do
  node ← at_member (codes "node") (wanted s.node)
  name ← at_member (codes "name") (wanted (option_map (λ t. chars t.now) s.name))
  Ok (Document (doc.Unset node name))

abbrev pub state_kept : EditParts → Checked Edit
state_kept s = do
  node ← at_member (codes "node") (wanted s.node)
  state ← at_member (codes "state") (wanted s.state)
  on ← at_member (codes "on") (wanted s.on)
  Ok (Document (doc.State node state on))

abbrev pub add_sheet_kept : EditParts → Checked Edit
add_sheet_kept s = do
  index ← at_member (codes "index") (wanted s.index)
  sheet ← sheet_kept s.input
  Ok (Sheets (sheets.Add index sheet.origin sheet.enabled sheet.text))

abbrev pub remove_sheet_kept : EditParts → Checked Edit
remove_sheet_kept s = do
  sheet ← at_member (codes "sheet") (wanted s.sheet)
  Ok (Sheets (sheets.Remove sheet))

abbrev pub replace_sheet_kept : EditParts → Checked Edit
replace_sheet_kept s = do
  sheet ← at_member (codes "sheet") (wanted s.sheet)
  text ← at_member (codes "text") (wanted (option_map chars (option_map (λ t. t.now) s.input.text)))
  Ok (Sheets (sheets.Replace sheet text))

abbrev pub enable_sheet_kept : EditParts → Checked Edit
enable_sheet_kept s = do
  sheet ← at_member (codes "sheet") (wanted s.sheet)
  on ← at_member (codes "on") (wanted s.on)
  Ok (Sheets (sheets.Enable sheet on))

abbrev pub kept_by : List ℕ → EditParts → Checked Edit
kept_by word s =
    if bytes_eq word (codes "insert") then insert_kept s
    else if bytes_eq word (codes "remove") then remove_kept s
    else if bytes_eq word (codes "move") then move_kept s
    else if bytes_eq word (codes "set") then set_kept s
    else if bytes_eq word (codes "unset") then unset_kept s
    else if bytes_eq word (codes "state") then state_kept s
    else if bytes_eq word (codes "add_sheet") then add_sheet_kept s
    else if bytes_eq word (codes "remove_sheet") then remove_sheet_kept s
    else if bytes_eq word (codes "replace_sheet") then replace_sheet_kept s
    else if bytes_eq word (codes "enable_sheet") then enable_sheet_kept s
    else no_edit

abbrev pub edit_kept : EditParts → Checked Edit
edit_kept s = do
  word ← at_member (codes "op") (wanted (option_map (λ t. t.now) s.op))
  kept_by word s

-- edits of which so many are counted
pub record HasEdits (s : EditItems) (edits : List Edit) : Type 0 where
  pub count : length edits ≡ s.count
  pub kept : s.list.items ≡ edits

-- the items of a batch
abbrev pub AreEditsOf : EditItems → List Data → Type 0
AreEditsOf s ds = AreRead (λ k. edit_in) s.bad (HasEdits s) ds

-- one more edit
pub record KeepsEdit (old : EditItems) (edit : Edit) (new : EditItems) : Type 0 where
  pub bad : new.bad ≡ old.bad
  pub count : new.count ≡ old.count + 1
  pub list : new.list.items ≡ old.list.items ++ edit ∷ []

abbrev pub edits_of : Vec Edit Global → List Edit
edits_of batch = batch.items

-- batches of which so many are counted, and kept as long as there are not too many
pub record HasBatches (s : BatchItems) (batches : List (List Edit)) : Type 0 where
  pub count : length batches ≡ s.count
  pub kept : length batches ≤ batch_limit → map edits_of s.list.items ≡ batches

-- the items of a list of batches
abbrev pub AreBatchesOf : BatchItems → List Data → Type 0
AreBatchesOf s ds = AreRead (λ k. batch_in) s.bad (HasBatches s) ds

-- one more batch
pub record KeepsBatch (old : BatchItems) (batch : Vec Edit Global) (new : BatchItems) : Type 0 where
  pub bad : new.bad ≡ old.bad
  pub count : new.count ≡ old.count + 1
  pub list : new.list.items ≡ (if nat_lt old.count batch_limit then old.list.items ++ batch ∷ [] else old.list.items)
