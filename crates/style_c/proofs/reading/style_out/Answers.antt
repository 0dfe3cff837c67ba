use Rattle.std.proofs.Common.{Some, inl, sym, ap, subst, ◌∙◌}
use Rattle.std.specs.Prelude.{encode_utf8_all}
use Rattle.scene_model.specs.Lookups.{tag_of}
use Rattle.report_text.specs.Lines.{element_line}
use Rattle.style_c.specs.Told.{IsTold, no_why}
use Rattle.style_c.proofs.ToldLemmas.{line_told}
use Rattle.style_c.proofs.reading.style_out.Goals as goal

pub returns-in-Ok : goal.returns-in-Ok
returns-in-Ok c =
    let st = c.args.session.now in
    let line =
    c.as_bytes.ensures.value
    ∙ (c.as_str.ensures.bytes
    ∙ ap encode_utf8_all
    (c.in-Ok.ensures
    ∙ (ap (λ tag. element_line c.args.node tag c.in-Kept.style.now) (c.tag.ensures ∙ ap (λ d. tag_of d.elements c.args.node) c.doc-doc.ensures)
    ∙ ap (element_line c.args.node (tag_of st.scene.document.elements c.args.node)) c.in-Kept.ensures.1.1))) in
    inl
    (subst (λ told. IsTold told c.bytes_out.result no_why c.bytes_out.new.buffer c.bytes_out.new.needed (Some st))
    (sym (line_told st c.args.node _ _ c.in-Kept.ensures.0 c.in-Kept.ensures.1.0 line))
    (c.bytes_out.ensures (Some st)))
