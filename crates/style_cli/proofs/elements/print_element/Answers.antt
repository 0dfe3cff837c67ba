use Rattle.std.proofs.Common.{sym, ap, ◌∙◌, subst}
use Rattle.std.specs.Prelude.{encode_utf8_all}
use Rattle.std.specs.Str.{chars}
use Rattle.dom_tree.proofs.ColumnLemmas.{on_ok}
use Rattle.scene_model.specs.Document.{Document}
use Rattle.scene_model.specs.Lookups.{tag_of}
use Rattle.scene_model.specs.Scene.{elements_of}
use Rattle.session_model.specs.Standing.{style_in}
use Rattle.style_lines.specs.KeptLines.{kept_line}
use Rattle.style_cli.specs.Printing.{Serves}
use Rattle.style_cli.proofs.ServeLemmas.{made_line, serves-kept}
use Rattle.style_cli.proofs.SettledLemmas.{kept-settled}
use Rattle.style_cli.proofs.elements.print_element.Goals as goal
use Rattle.style_cli.proofs.elements.print_element.Goals.{then-keeps+in_ok-keep, else-keeps}

pub returns-clause-serves : goal.returns-clause-serves
returns-clause-serves g c =
    let st = c.args.session.now in
    let n = c.args.number in
    let at = kept-settled st c.requires.settled c.requires.sound n c.requires.element in
    let tag = c.tag.ensures ∙ ap (λ (d : Document). tag_of d.elements n) c.doc.ensures in
    let made = made_line n c.clear.new.self c.push_element_line.new.line (chars c.tag.result.now) (tag_of (elements_of st.scene) n) c.style_of.result.now (style_in st.scene n) c.clear.ensures c.in_ok-push_element_line.ensures.ok tag c.style_of.ensures in
    let text = c.as_str.ensures.bytes ∙ ap encode_utf8_all made in
    let bytes = c.as_bytes-bytes.ensures.value ∙ text in
    on_ok c.write_all.result (Serves st c.if-keeps.lines) (elim c.if-keeps.branch [
      | then-keeps+in_ok-keep w ↦ subst (Serves st) (sym w.lines-is) (serves-kept (λ l. l) st (kept_line c.args.lines.now) (kept_line w.keep.new.self) n (style_in st.scene n) c.as_bytes-bytes.result.now c.requires.serves at bytes w.keep.ensures.own w.keep.ensures.others)
      | else-keeps w ↦ subst (Serves st) (sym w.lines-is) c.requires.serves
    ])
