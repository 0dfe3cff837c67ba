-- What a call tells C: its status, why a job or an edit is refused, bytes for a buffer, and what the handle has then.
use Rattle.std.specs.Prelude.{◌≡◌, ℕ, ◌==◌, ◌≤◌, nat_le, nat_lt, ◌⊎◌, ◌&&◌, List, [], length, take, encode_utf8_all, if◌then◌else◌}
use Rattle.std.specs.Prelude.{not, true, false, Bool, Option, Some, None, Result, Ok, Err}
use Rattle.std.specs.Str.{chars, is_utf8}
use Rattle.base_model.specs.Limits.{input_limit}
use Rattle.std.specs.List.{list_any}
use Rattle.base_model.specs.Text.{Characters}
use Rattle.scene_model.specs.Lookups.{is_element, numbers}
use Rattle.scene_model.specs.Scene.{Scene, elements_of}
use Rattle.sheet_model.specs.Sources.{sources_of}
use Rattle.report_text.specs.Elements.{elements_bytes, line_bytes}
use Rattle.stylo_base.specs.declared.refusal.Kind.{Kind}
use Rattle.stylo_base.specs.declared.refusal.Kind.TheVariants as kinds
use Rattle.stylo_base.specs.declared.refusal.Kind.TheVariants.{Input}
use Rattle.stylo_base.specs.declared.refusal.EditRefused.{EditRefused}
use Rattle.stylo_base.specs.declared.refusal.EditRefused.TheVariants as refusals
use Rattle.edit_model.specs.Refusal.{Outcome, refused, accepted}
use Rattle.dom_edits.specs.declared.edits.DocEdit.TheVariants as doc
use Rattle.dom_edits.specs.declared.edits.Edit.{Edit}
use Rattle.dom_edits.specs.declared.edits.Edit.TheVariants.{Document}
use Rattle.dom_edits.specs.EditView.{edit_seen, refusal_answered}
use Rattle.stylo_base.specs.declared.state.State.{State}
use Rattle.stylo_base.specs.declared.state.State.TheVariants.{Hover, Active, Focus}
use Rattle.session_model.specs.Standing.{Standing, cascaded_count, edited, is_open, matched_count, restyled, scene_applied, started}
use Rattle.job_json.specs.Words.{is_name}
use Rattle.job_json.specs.JobOf.{answer_to, verdict_of}
use Rattle.job_json.specs.declared.Job.{Job}
use Rattle.job_json.specs.EditRead.{edit_read}
use Rattle.job_json.specs.declared.JobFault.{JobFault}
use Rattle.job_json.specs.declared.JobFault.TheVariants.{Limit, NoMemory, NotJson, Shape}
use Rattle.style_session.specs.SessionView.{scene_from}
use Rattle.style_c.specs.declared.told.Why.{Why}
use Rattle.style_c.specs.declared.restyling.RestyleCounts.{RestyleCounts}

-- the numbers of kinds
abbrev pub kind_number : Kind → ℕ
kind_number Input = 1
kind_number kinds.Elements = 2
kind_number kinds.Numbers = 3
kind_number kinds.Depth = 4
kind_number kinds.Attributes = 5
kind_number kinds.Value = 6
kind_number kinds.Sheets = 7
kind_number kinds.Text = 8
kind_number kinds.Batches = 9
kind_number kinds.Device = 10

abbrev pub why_told : ℕ → ℕ → ℕ → Why
why_told what kind number = record { what = what; kind = kind; number = number }

abbrev pub no_why : Why
no_why = why_told 0 0 0

abbrev pub why_limit : Kind → ℕ → Why
why_limit kind number = why_told 4 (kind_number kind) number

abbrev pub why_refused : EditRefused → Why
why_refused (refusals.UnknownNode n) = why_told 1 0 n
why_refused (refusals.UnknownSheet n) = why_told 2 0 n
why_refused refusals.BadPlace = why_told 3 0 0
why_refused (refusals.Limit kind number) = why_limit kind number
why_refused refusals.NoMemory = no_why

pub record Told : Type 0 where
  pub status : ℕ
  pub why : Why
  pub bytes : List ℕ
  pub session : Option Standing

-- a status alone
abbrev pub quiet : ℕ → Option Standing → Told
quiet status session = record { status = status; why = no_why; bytes = []; session = session }

-- and with a limit, with the refusal of an edit, or with a place in a job or in an edit
abbrev pub fault_told : JobFault → Option Standing → Told
fault_told NotJson session = quiet 3 session
fault_told (Shape path) session = record (quiet 4 session) { bytes = encode_utf8_all path }
fault_told (Limit kind number) session = record (quiet 5 session) { why = why_limit kind number }
fault_told NoMemory session = quiet 7 session

abbrev pub refusal_told : EditRefused → Option Standing → Told
refusal_told why session = record (quiet 8 session) { why = why_refused why }

-- an input that is too long is not read
abbrev pub within_limit : List ℕ → Option Standing → Told → Told
within_limit bytes session told =
    if nat_le (length bytes) input_limit then told else fault_told (Limit Input input_limit) session

-- opening a session

abbrev pub opened : Option Standing → Result Job JobFault → Told
opened old (Ok job) = quiet 0 (Some (started (scene_from job.nodes job.sheets)))
opened old (Err fault) = fault_told fault old

abbrev pub open_told : List ℕ → Option Standing → Told
open_told job old = within_limit job old (opened old (answer_to (verdict_of job)))

-- an edit of a session

abbrev pub outcome_told : Standing → Edit → Outcome Scene → Told
outcome_told st edit (refused why) = refusal_told (refusal_answered why) (Some st)
outcome_told st edit (accepted after) = quiet 0 (Some (edited st (edit_seen edit)))

abbrev pub applied_told : Standing → Edit → Told
applied_told st edit = outcome_told st edit (scene_applied st.scene (edit_seen edit))

abbrev pub edited_by : Standing → Result Edit JobFault → Told
edited_by st (Ok edit) = applied_told st edit
edited_by st (Err fault) = fault_told fault (Some st)

abbrev pub edit_told : List ℕ → Option Standing → Told
edit_told json None = quiet 9 None
edit_told json (Some st) = within_limit json (Some st) (edited_by st (edit_read json))

-- a text within the input limit in UTF-8, and one that is a name
abbrev pub is_text : List ℕ → Bool
is_text bytes = nat_le (length bytes) input_limit && is_utf8 bytes

abbrev pub is_named : List ℕ → Bool
is_named bytes = is_text bytes && is_name bytes

abbrev pub set_told : ℕ → List ℕ → List ℕ → Option Standing → Told
set_told node name value None = quiet 9 None
set_told node name value (Some st) =
    if is_named name && is_text value then applied_told st (Document (doc.Set node (chars name) (chars value)))
    else quiet 13 (Some st)

abbrev pub unset_told : ℕ → List ℕ → Option Standing → Told
unset_told node name None = quiet 9 None
unset_told node name (Some st) =
    if is_named name then applied_told st (Document (doc.Unset node (chars name))) else quiet 13 (Some st)

-- the states by their numbers, and truth by its
abbrev pub state_numbered : ℕ → State
state_numbered which = if nat_lt which 1 then Hover else if nat_lt which 2 then Active else Focus

abbrev pub state_told : ℕ → ℕ → ℕ → Option Standing → Told
state_told node which on None = quiet 9 None
state_told node which on (Some st) =
    if nat_lt which 3 && nat_lt on 2
    then applied_told st (Document (doc.State node (state_numbered which) (nat_lt 0 on)))
    else quiet 13 (Some st)

-- a restyle
abbrev pub restyle_told : Option Standing → Told
restyle_told None = quiet 9 None
restyle_told (Some st) = quiet 0 (Some (restyled st))

-- bytes for a buffer of so much room
abbrev pub bytes_told : List ℕ → ℕ → Option Standing → Told
bytes_told bytes room session =
    record (quiet (if nat_le (length bytes) room then 0 else 10) session) { bytes = bytes }

-- what a call left, as it is told
pub record IsTold (told : Told) (status : ℕ) (why : Why) (buffer : List ℕ) (needed : ℕ)
    (session : Option Standing) : Type 0 where
  pub same_status : status ≡ told.status
  pub same_why : why ≡ told.why
  pub all_needed : needed ≡ length told.bytes
  pub copied : length told.bytes ≤ length buffer → take (length told.bytes) buffer ≡ told.bytes
  pub same_session : session ≡ told.session

-- or all is as it was, and there was no memory
abbrev pub Gives : Told → Option Standing → ℕ → Why → List ℕ → ℕ → Option Standing → Type 0
Gives told old status why buffer needed session =
    IsTold told status why buffer needed session ⊎ IsTold (quiet 7 old) status why buffer needed session

abbrev pub no_counts : RestyleCounts
no_counts = record { matched = 0; cascaded = 0 }

-- the counts of a restyle: 0 where there is none
abbrev pub counts_told : Option Standing → RestyleCounts
counts_told None = no_counts
counts_told (Some st) = record { matched = matched_count st; cascaded = cascaded_count st }

abbrev pub IsCounted : Option Standing → ℕ → RestyleCounts → Type 0
IsCounted old status counts = counts ≡ (if status == 0 then counts_told old else no_counts)

-- the line of an element, and all lines

abbrev pub style_told : ℕ → ℕ → Option Standing → Told
style_told node room None = quiet 9 None
style_told node room (Some st) =
    if not (is_element (elements_of st.scene) node) then quiet 12 (Some st)
    else if is_open st node then quiet 11 (Some st)
    else bytes_told (line_bytes (elements_of st.scene) (sources_of st.scene.sheets) node) room (Some st)

abbrev pub is_any_open : Standing → Bool
is_any_open st = list_any (is_open st) (numbers (elements_of st.scene))

abbrev pub text_told : ℕ → Option Standing → Told
text_told room None = quiet 9 None
text_told room (Some st) =
    if is_any_open st then quiet 11 (Some st) else bytes_told (elements_bytes st.scene) room (Some st)

-- the text of all lines, where no element is stale
abbrev pub IsTextOf : Standing → Option Characters → Type 0
IsTextOf st None = is_any_open st ≡ true
IsTextOf st (Some text) = (is_any_open st ≡ false) × (encode_utf8_all text ≡ elements_bytes st.scene)

-- the numbers of the elements that the last restyle cascaded, for a buffer of so much room
abbrev pub AreChanged : Option Standing → ℕ → ℕ → List ℕ → ℕ → Type 0
AreChanged None status room buffer needed = (status ≡ 9) × (needed ≡ 0)
AreChanged (Some st) status room buffer needed =
    (needed ≡ length st.recent)
    × ((status ≡ (if nat_le (length st.recent) room then 0 else 10))
    × (length st.recent ≤ room → take (length st.recent) buffer ≡ st.recent))
