use Rattle.std.proofs.Common.{◌++◌, get_or, sym, ap, ◌∙◌}
use Rattle.std.specs.List.{list_any}
use Rattle.scene_model.specs.Document.{Document}
use Rattle.scene_model.specs.Lookups.{numbers, tag_of}
use Rattle.scene_model.specs.Scene.{elements_of}
use Rattle.session_model.specs.Standing.{is_open}
use Rattle.report_text.specs.Lines.{element_line}
use Rattle.dom_tree.proofs.DepthLemmas.{get_any}
use Rattle.style_c.proofs.LineLemmas.{is_number, not_kept, one_line, one_open}
use Rattle.style_c.proofs.reading.text_of.Goals as goal

pub returns-in_default : goal.returns-in_default
returns-in_default c =
    let st = c.args.session.now in
    let items = c.in_tree_order-number-items.result.now in
    let i = c.loop-number.number-index in
    let below = c.loop-number-test.true in
    let order = c.in_tree_order-number-items.ensures.order ∙ ap (λ (d : Document). numbers d.elements) c.doc.ensures in
    let stale = not_kept st (get_or items i 0) c.style.result (is_number (elements_of st.scene) items i below order) c.style.ensures c.in_default.not-Kept in
    ap (list_any (is_open st)) (sym order) ∙ one_open st items i (get_or items i 0) c.loop-number.text below (get_any items i below) stale c.loop-number.invariant

pub loop-number-preserved : goal.loop-number-preserved
loop-number-preserved c =
    let st = c.args.session.now in
    let items = c.in_tree_order-number-items.result.now in
    let i = c.loop-number.number-index in
    let x = get_or items i 0 in
    let below = c.loop-number-test.true in
    let style = c.in-Kept.style.now in
    let line =
    ap (λ tag. element_line x tag style) (c.tag.ensures ∙ ap (λ (d : Document). tag_of d.elements x) c.doc-in-loop-number.ensures)
    ∙ ap (element_line x (tag_of (elements_of st.scene) x)) c.in-Kept.ensures.1.1 in
    one_line st items i x c.loop-number.text c.push_element_line.new.line below (get_any items i below) c.in-Kept.ensures.1.0
    (c.in_ok-push_element_line.ensures.ok ∙ ap (λ l. c.loop-number.text ++ l) line) c.loop-number.invariant
