-- Each line of a job's text is ended by a line feed and holds no other, so there are as many of these as lines.
use Rattle.std.proofs.Common.{◌≡◌, ℕ, ◌+◌, List, [], ◌∷◌, length, map, flat_map, refl, sym, ◌∙◌, arith}
use Rattle.std.specs.Prelude.{encode_utf8_all}
use Rattle.std.specs.List.{AllByRecursion}
use Rattle.base_model.specs.LineFeeds.{line_feeds}
use Rattle.base_model.specs.Sheet.{Sheet}
use Rattle.base_model.specs.Text.{Characters}
use Rattle.base_model.proofs.LineFeedLemmas.{IsWithinLine, line_feeds-append, line_feeds-encoded, line_feeds-within_line}
use Rattle.base_model.proofs.Lists.{each-append, each-map, each_any}
use Rattle.scene_model.specs.Element.{Element}
use Rattle.scene_model.specs.Lookups.{numbers, tag_of}
use Rattle.scene_model.specs.Scene.{Scene, elements_of}
use Rattle.scene_model.proofs.TagLemmas.{TagsHold, scene_of_holds, tag_of_holds}
use Rattle.cascade_model.specs.StyleOf.{style_of}
use Rattle.cascade_model.proofs.LineLemmas.{printed_style_within}
use Rattle.sheet_model.specs.Sources.{sources_of}
use Rattle.session_model.specs.Batches.{RefusedEdit, Report}
use Rattle.session_model.proofs.TagLemmas.{ReportTagsHold, SceneTagsHold, reports_hold}
use Rattle.dom_edits.specs.declared.edits.Edit.{Edit}
use Rattle.dom_edits.specs.EditView.{edit_seen, refusal_answered}
use Rattle.report_text.proofs.LineLemmas.{batch_line_feeds, element_line_feeds, refused_line_feeds}
use Rattle.job_json.specs.Gen.{generated}
use Rattle.job_json.specs.declared.Job.{Job}
use Rattle.job_json.proofs.LineTags.{HasLineTags, IsLineEdit, generated_tags}
use Rattle.edit_model.proofs.TagLemmas.{EditTagsHold}
use Rattle.report_text.specs.Elements.{element_lines, line_at}
use Rattle.style_cli.specs.Sums.{sums_from, sums_of}
use Rattle.style_cli.specs.Text.{batch_text, batches_of, first_scene, refused_lines, report_lines, reports_of, text_from, text_of}

-- the lines of a batch

abbrev AreLines : List Characters → Type 0
AreLines lines = AllByRecursion (λ line. line_feeds line ≡ 1) lines

line_at_feeds : (doc : List Element) (sheets : List Sheet) (x : ℕ) → TagsHold IsWithinLine doc → line_feeds (line_at doc (sources_of sheets) x) ≡ 1
line_at_feeds doc sheets x tags =
    element_line_feeds x (tag_of doc x) (style_of doc (sources_of sheets) x) (tag_of_holds IsWithinLine refl doc x tags) (printed_style_within doc sheets x)

element_feeds : (scene : Scene) → SceneTagsHold IsWithinLine scene → AreLines (element_lines scene)
element_feeds scene tags =
    let line : ℕ → Characters = line_at (elements_of scene) (sources_of scene.sheets) in
    each-map (λ text. line_feeds text ≡ 1) line (numbers (elements_of scene))
    (each_any (λ x. line_feeds (line x) ≡ 1) (λ x. line_at_feeds (elements_of scene) scene.sheets x tags) (numbers (elements_of scene)))

refused_feeds : (refusals : List RefusedEdit) → AreLines (refused_lines refusals)
refused_feeds [] = tt
refused_feeds (one ∷ refusals) = (refused_line_feeds one.place (refusal_answered one.why), refused_feeds refusals)

report_feeds : (batch : ℕ) (report : Report) → ReportTagsHold IsWithinLine report → AreLines (report_lines batch report)
report_feeds batch report tags = (
  batch_line_feeds batch report.accepted (length report.refusals) report.matched report.cascaded,
  each-append (λ line. line_feeds line ≡ 1) (refused_lines report.refusals) (element_lines report.scene) (refused_feeds report.refusals) (element_feeds report.scene tags),
)

-- in UTF-8, one after another

lines_feeds : (lines : List Characters) → AreLines lines → line_feeds (flat_map encode_utf8_all lines) ≡ length lines
lines_feeds [] h = line_feeds-within_line [] refl
lines_feeds (line ∷ lines) h =
    line_feeds-append (encode_utf8_all line) (flat_map encode_utf8_all lines)
    ∙ omega (arith, line_feeds-encoded line, h.0, lines_feeds lines h.1)

lines-text_from : (batch : ℕ) (list : List Report) → AllByRecursion (ReportTagsHold IsWithinLine) list → (sums_from batch list).lines ≡ line_feeds (text_from batch list)
unfolding batch_text
lines-text_from batch [] h = sym (line_feeds-within_line [] refl)
lines-text_from batch (report ∷ rest) h =
    let lines : List Characters = report_lines batch report in
    omega (arith, line_feeds-append (flat_map encode_utf8_all lines) (text_from (batch + 1) rest), lines_feeds lines (report_feeds batch report h.0), lines-text_from (batch + 1) rest h.1)

-- the edits of a job, as they are seen

batches_hold : (batches : List (List Edit)) → AllByRecursion (λ batch. AllByRecursion IsLineEdit batch) batches → AllByRecursion (λ batch. AllByRecursion (EditTagsHold IsWithinLine) batch) (map (map edit_seen) batches)
batches_hold [] h = tt
batches_hold (batch ∷ batches) h = (each-map (EditTagsHold IsWithinLine) edit_seen batch h.0, batches_hold batches h.1)

-- Of each job whose tags hold no line feed.
pub lines-text : (job : Job) → HasLineTags job → (sums_of job).lines ≡ line_feeds (text_of job)
lines-text job tags =
    lines-text_from 0 (reports_of job)
    (reports_hold IsWithinLine (first_scene job) (batches_of job) (scene_of_holds IsWithinLine job.nodes tags.nodes) (batches_hold job.batches tags.edits))

pub generated_lines : (seed nodes batches : ℕ) → (sums_of (generated seed nodes batches)).lines ≡ line_feeds (text_of (generated seed nodes batches))
generated_lines seed nodes batches = lines-text (generated seed nodes batches) (generated_tags seed nodes batches)
