-- Without batches the text of a job is that of batch 0.
use Rattle.std.proofs.Common.{◌≡◌, ℕ, List, [], ◌∷◌, ap, ◌∙◌, append-nil, length, map}
use Rattle.std.specs.Prelude.{encode_utf8_all}
use Rattle.std.specs.List.{flat_map}
use Rattle.std.proofs.lemmas.List.{length-map}
use Rattle.base_model.specs.Text.{Characters}
use Rattle.scene_model.specs.Element.{Element}
use Rattle.scene_model.specs.Lookups.{numbers}
use Rattle.scene_model.specs.Nodes.{scene_of}
use Rattle.scene_model.specs.Scene.{elements_of}
use Rattle.sheet_model.specs.Sources.{Sources, sources_of}
use Rattle.session_model.specs.Standing.{started}
use Rattle.session_model.specs.Batches.{report_of, reports}
use Rattle.session_model.proofs.BatchLemmas.{first-report}
use Rattle.report_text.specs.Lines.{batch_line}
use Rattle.dom_edits.specs.EditView.{edit_seen}
use Rattle.layer_order.specs.View.{sheets_of}
use Rattle.job_json.specs.declared.Job.{Job}
use Rattle.report_text.specs.Elements.{element_lines, line_at}
use Rattle.style_cli.specs.Text.{batch_text, first_scene, text_from, text_of}

-- every element is matched and cascaded
abbrev pub lines_of : List Element → Sources → List Characters
lines_of doc sources = batch_line 0 0 0 (length doc) (length doc) ∷ map (line_at doc sources) (numbers doc)

unfoldable pub text_by : List Element → Sources → List ℕ
text_by doc sources = flat_map encode_utf8_all (lines_of doc sources)

pub text_of-none : (job : Job) → job.batches ≡ [] → text_of job ≡ text_by (scene_of job.nodes) (sources_of (sheets_of job.sheets))
unfolding reports batch_text text_by
text_of-none job none =
    ap (λ batches. text_from 0 (reports (first_scene job) (map (map edit_seen) batches))) none
    ∙ (append-nil (batch_text 0 (report_of (started (first_scene job)) []))
    ∙ (ap (batch_text 0) (first-report (first_scene job))
    ∙ ap (λ n. flat_map encode_utf8_all (batch_line 0 0 0 n n ∷ element_lines (first_scene job))) (length-map (elements_of (first_scene job)) (λ (e : Element). e.number))))
