use Rattle.std.proofs.Common.{◌≡◌, Some, ap, sym, ◌∙◌, subst}
use Rattle.std.specs.Prelude.{option_map}
use Rattle.std.specs.Io.KnownBytes.{Appends}
use Rattle.base_model.proofs.Results.{on_err}
use Rattle.sheet_model.specs.Sources.{sources_of}
use Rattle.scene_model.specs.Scene.{elements_of}
use Rattle.session_model.specs.Standing.{style_in}
use Rattle.report_text.specs.Elements.{line_bytes}
use Rattle.style_lines.specs.KeptLines.{kept_line}
use Rattle.style_lines.specs.Loops.{GrewByFront}
use Rattle.style_cli.proofs.ServeLemmas.{kept_one}
use Rattle.style_cli.proofs.SettledLemmas.{kept-settled}
use Rattle.style_cli.proofs.elements.print_line.Goals as goal

pub returns-in_err-write_all-clause-err : goal.returns-in_err-write_all-clause-err
returns-in_err-write_all-clause-err g c =
    let st = c.args.session.now in
    let n = c.args.number in
    let at = kept-settled st c.requires.settled c.requires.sound n c.requires.element in
    let is : kept_line c.args.lines.now n ≡ Some c.in-Some.kept.now = sym c.line.ensures ∙ ap (option_map (λ kept. kept.now)) c.in-Some.is in
    let own : c.in-Some.kept.now ≡ line_bytes (elements_of st.scene) (sources_of st.scene.sheets) n = kept_one (λ l. l) st (kept_line c.args.lines.now) n (style_in st.scene n) c.in-Some.kept.now c.requires.serves at is in
    on_err c.from_residual.result _ (subst (GrewByFront (g.K.Sink.held c.args.sink.now) (g.K.Sink.held c.write_all.new.sink)) own c.in_err-write_all.ensures.err)

pub returns-clause-ok : goal.returns-clause-ok
returns-clause-ok g c =
    let st = c.args.session.now in
    let n = c.args.number in
    let at = kept-settled st c.requires.settled c.requires.sound n c.requires.element in
    let is : kept_line c.args.lines.now n ≡ Some c.in-Some.kept.now = sym c.line.ensures ∙ ap (option_map (λ kept. kept.now)) c.in-Some.is in
    let own : c.in-Some.kept.now ≡ line_bytes (elements_of st.scene) (sources_of st.scene.sheets) n = kept_one (λ l. l) st (kept_line c.args.lines.now) n (style_in st.scene n) c.in-Some.kept.now c.requires.serves at is in
    subst (Appends (g.K.Sink.held c.args.sink.now) (g.K.Sink.held c.write_all.new.sink)) own c.in_ok-write_all.ensures.ok
