-- Sums over batches, a batch at a time.
use Rattle.std.proofs.Common.{◌≡◌, ℕ, suc, ◌+◌, List, [], ◌∷◌, length, map, refl, sym, ap, ap₂, ◌∙◌, arith, length-append}
use Rattle.std.proofs.lemmas.List.{length-map}
use Rattle.scene_model.specs.Element.{Element}
use Rattle.scene_model.specs.Lookups.{numbers}
use Rattle.scene_model.specs.Nodes.{Node}
use Rattle.scene_model.specs.Scene.{elements_of}
use Rattle.sheet_model.specs.Sources.{sources_of}
use Rattle.edit_model.specs.Edit.{Edit}
use Rattle.session_model.specs.Standing.{Standing, restyled, started}
use Rattle.session_model.specs.Batches as model
use Rattle.session_model.specs.Batches.{Report, edited_all, refused_from, report_of, reports, reports_from}
use Rattle.style_session.specs.declared.counts.Counts.{Counts}
use Rattle.dom_edits.specs.declared.edits.Edit.{Edit as CodeEdit}
use Rattle.dom_edits.specs.EditView.{refusal_answered}
use Rattle.report_text.specs.Lines.{refused_line}
use Rattle.report_text.specs.declared.lines.Sums.{Sums}
use Rattle.report_text.specs.Elements.{element_lines, elements_bytes, line_at}
use Rattle.style_session.specs.SessionView.{scene_from}
use Rattle.style_cli.specs.Printing.{IsHeadingOf, answered, edits_seen, heading_bytes}
use Rattle.layer_order.specs.declared.sheet_input.SheetInput.{SheetInput}
use Rattle.job_json.specs.Draws.{drawn_list}
use Rattle.job_json.specs.Gen.{drawn_batch, drawn_batches, drawn_nodes, generated, the_sheet}
use Rattle.style_cli.specs.Sums.{batch_sums, both_sums, heading_sums, no_sums, sums_from, sums_of}
use Rattle.style_cli.specs.Text.{batch_text, refused_lines, report_lines, text_from}
use Rattle.style_cli.specs.declared.batch.Heading.{Heading}
use Rattle.style_cli.proofs.Printed.{batch_parts}

abbrev sums_with : ℕ → ℕ → ℕ → ℕ → ℕ → ℕ → Sums
sums_with a r m c l b = record { accepted = a; refused = r; matched = m; cascaded = c; lines = l; bytes = b }

-- equal parts make equal sums
pub same_sums : (one other : Sums) → one.accepted ≡ other.accepted → one.refused ≡ other.refused → one.matched ≡ other.matched → one.cascaded ≡ other.cascaded → one.lines ≡ other.lines → one.bytes ≡ other.bytes → one ≡ other
same_sums one other a r m c l b =
    ap (λ x. sums_with x one.refused one.matched one.cascaded one.lines one.bytes) a
    ∙ (ap (λ x. sums_with other.accepted x one.matched one.cascaded one.lines one.bytes) r
    ∙ (ap (λ x. sums_with other.accepted other.refused x one.cascaded one.lines one.bytes) m
    ∙ (ap (λ x. sums_with other.accepted other.refused other.matched x one.lines one.bytes) c
    ∙ (ap (λ x. sums_with other.accepted other.refused other.matched other.cascaded x one.bytes) l
    ∙ ap (λ x. sums_with other.accepted other.refused other.matched other.cascaded other.lines x) b))))

pub both-none : (sums : Sums) → both_sums no_sums sums ≡ sums
both-none sums =
    same_sums (both_sums no_sums sums) sums (omega arith) (omega arith) (omega arith) (omega arith) (omega arith) (omega arith)

pub none-both : (sums : Sums) → both_sums sums no_sums ≡ sums
none-both sums =
    same_sums (both_sums sums no_sums) sums (omega arith) (omega arith) (omega arith) (omega arith) (omega arith) (omega arith)

pub both-assoc : (a b c : Sums) → both_sums (both_sums a b) c ≡ both_sums a (both_sums b c)
both-assoc a b c =
    same_sums (both_sums (both_sums a b) c) (both_sums a (both_sums b c)) (omega arith) (omega arith) (omega arith) (omega arith) (omega arith) (omega arith)

-- the bytes that are summed up are those of the text
pub bytes-text : (n : ℕ) (reports : List Report) → (sums_from n reports).bytes ≡ length (text_from n reports)
bytes-text n [] = refl
bytes-text n (report ∷ rest) =
    ap (λ k. length (batch_text n report) + k) (bytes-text (n + 1) rest)
    ∙ sym (length-append (batch_text n report) (text_from (n + 1) rest))

-- the sums of a generated job, by those of the batches that were taken through its session
pub summed_job : (st : Standing) (list : List Node) (sheets : List SheetInput) (draws : ℕ × ℕ) (seed nodes batches : ℕ) → st ≡ started (scene_from list sheets) → list ≡ (drawn_nodes nodes seed).0 → sheets ≡ the_sheet ∷ [] → draws ≡ (nodes, (drawn_nodes nodes seed).1) → sums_from 0 (reports_from st ([] ∷ map edits_seen (drawn_batches draws.0 batches draws.1).0)) ≡ sums_of (generated seed nodes batches)
unfolding reports generated
summed_job st list sheets draws seed nodes batches begun nodes_are sheets_are draws_are =
    let seen : ℕ × ℕ → List (List Edit) = λ d. [] ∷ map edits_seen (drawn_batches d.0 batches d.1).0 in
    ap (λ s. sums_from 0 (reports_from s (seen draws))) begun
    ∙ (ap₂ (λ ns ss. sums_from 0 (reports_from (started (scene_from ns ss)) (seen draws))) nodes_are sheets_are
    ∙ ap (λ d. sums_from 0 (reports_from (started (scene_from (drawn_nodes nodes seed).0 (the_sheet ∷ []))) (seen d))) draws_are)

-- what is made of a batch is what it is counted as
module _ (n : ℕ) (st now : Standing) (edits : List Edit) (heading : Heading) (told : IsHeadingOf st edits heading) (is : now ≡ restyled (edited_all st edits)) where
  refused_count : length heading.refused.items ≡ length (refused_from 1 st edits)
  refused_count = ap length told.refused ∙ length-map (refused_from 1 st edits) answered

  element_count : length (element_lines (edited_all st edits).scene) ≡ length (elements_of now.scene)
  element_count =
      let scene = (edited_all st edits).scene in
      length-map (numbers (elements_of scene)) (line_at (elements_of scene) (sources_of scene.sheets))
      ∙ (length-map (elements_of scene) (λ (e : Element). e.number) ∙ ap (λ (s : Standing). length (elements_of s.scene)) (sym is))

  line_count : length (report_lines n (report_of st edits)) ≡ 1 + length heading.refused.items + length (elements_of now.scene)
  line_count =
      let list = refused_from 1 st edits in
      let lines = element_lines (edited_all st edits).scene in
      let both = length-append (refused_lines list) lines in
      let refusals = length-map list (λ (one : model.RefusedEdit). refused_line one.place (refusal_answered one.why)) in
      omega (arith, both, refusals, refused_count, element_count)

  pub batch_summed : heading_sums n heading now.scene ≡ batch_sums n (report_of st edits)
  batch_summed =
      let bytes = ap {B = ℕ} length (batch_parts n st now edits heading told is) ∙ length-append (heading_bytes n heading) (elements_bytes now.scene) in
      same_sums (heading_sums n heading now.scene) (batch_sums n (report_of st edits)) told.accepted refused_count (ap (λ (k : Counts). k.matched) told.counts) (ap (λ (k : Counts). k.cascaded) told.counts) (sym line_count) (sym bytes)

-- the next batch is the first of those that are to be drawn still
pub drawn_on : (nodes left more k state next : ℕ) (batch : List CodeEdit) → left ≡ suc more → batch ≡ (drawn_batch nodes state).0 → next ≡ (drawn_batch nodes state).1 → map edits_seen (drawn_list (λ _. drawn_batch nodes) left k state).0 ≡ edits_seen batch ∷ map edits_seen (drawn_list (λ _. drawn_batch nodes) more (k + 1) next).0
drawn_on nodes left more k state next batch e is after =
    ap (λ m. map edits_seen (drawn_list (λ _. drawn_batch nodes) m k state).0) e
    ∙ ap₂ (λ b s. edits_seen b ∷ map edits_seen (drawn_list (λ _. drawn_batch nodes) more (k + 1) s).0) (sym is) (sym after)

-- one batch more is added, and the others are to be added still
pub batches_on : (sums new one : Sums) (n : ℕ) (done now : Standing) (next : List Edit) (rest others : List (List Edit)) (whole : Sums) → new ≡ both_sums sums one → now ≡ done → rest ≡ next ∷ others → both_sums sums (both_sums one (sums_from n (reports_from done rest))) ≡ whole → both_sums new (sums_from n (reports_from now (next ∷ others))) ≡ whole
batches_on sums new one n done now next rest others whole added same split is =
    ap (λ s. both_sums s (sums_from n (reports_from now (next ∷ others)))) added
    ∙ (ap (λ (s : Standing). both_sums (both_sums sums one) (sums_from n (reports_from s (next ∷ others)))) same
    ∙ (ap (λ bs. both_sums (both_sums sums one) (sums_from n (reports_from done bs))) (sym split)
    ∙ (both-assoc sums one (sums_from n (reports_from done rest)) ∙ is)))

-- and where none is left, that is all
pub batches_end : (sums new one : Sums) (n : ℕ) (done : Standing) (rest : List (List Edit)) (whole : Sums) → new ≡ both_sums sums one → rest ≡ [] → both_sums sums (both_sums one (sums_from n (reports_from done rest))) ≡ whole → new ≡ whole
batches_end sums new one n done rest whole added none is =
    added
    ∙ (ap (both_sums sums) (sym (none-both one) ∙ ap (λ bs. both_sums one (sums_from n (reports_from done bs))) (sym none)) ∙ is)
