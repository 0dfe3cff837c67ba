-- The text that a job is answered with: that of each of its batches.
use Rattle.std.specs.Prelude.{ℕ, ◌+◌, List, [], ◌∷◌, ◌++◌, map, length, encode_utf8_all}
use Rattle.std.specs.List.{flat_map}
use Rattle.base_model.specs.Text.{Characters}
use Rattle.edit_model.specs.Edit as model
use Rattle.scene_model.specs.Scene.{Scene}
use Rattle.session_model.specs.Batches.{RefusedEdit, Report, reports}
use Rattle.dom_edits.specs.EditView.{edit_seen, refusal_answered}
use Rattle.report_text.specs.Elements.{element_lines}
use Rattle.report_text.specs.Lines.{batch_line, refused_line}
use Rattle.style_session.specs.SessionView.{scene_from}
use Rattle.job_json.specs.declared.Job.{Job}

abbrev pub refused_lines : List RefusedEdit → List Characters
refused_lines refusals = map (λ (one : RefusedEdit). refused_line one.place (refusal_answered one.why)) refusals

-- the counts of a batch, its refused edits, and the elements after it
abbrev pub report_lines : ℕ → Report → List Characters
report_lines batch report =
    batch_line batch report.accepted (length report.refusals) report.matched report.cascaded
    ∷ (refused_lines report.refusals ++ element_lines report.scene)

-- in UTF-8
unfoldable pub batch_text : ℕ → Report → List ℕ
batch_text batch report = flat_map encode_utf8_all (report_lines batch report)

-- that of batches from this number on
abbrev pub text_from : ℕ → List Report → List ℕ
text_from batch [] = []
text_from batch (report ∷ rest) = batch_text batch report ++ text_from (batch + 1) rest

-- the scene in which a job begins
abbrev pub first_scene : Job → Scene
first_scene job = scene_from job.nodes job.sheets

abbrev pub batches_of : Job → List (List model.Edit)
batches_of job = map (map edit_seen) job.batches

-- What is told of a job: a report of each batch, of which the first is the job before any edit.
abbrev pub reports_of : Job → List Report
reports_of job = reports (first_scene job) (batches_of job)

abbrev pub text_of : Job → List ℕ
text_of job = text_from 0 (reports_of job)
