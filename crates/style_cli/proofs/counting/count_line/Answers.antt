use Rattle.std.proofs.Common.{◌≡◌, length, rules}
use Rattle.std.specs.Prelude.{encode_utf8_all}
use Rattle.scene_model.specs.Lookups.{tag_of}
use Rattle.scene_model.specs.Scene.{elements_of}
use Rattle.session_model.specs.Standing.{style_in}
use Rattle.report_text.specs.Lines.{element_line}
use Rattle.style_lines.specs.KeptLines.{kept_length}
use Rattle.style_cli.proofs.ServeLemmas.{serves-kept}
use Rattle.style_cli.proofs.SettledLemmas.{kept-settled}
use Rattle.style_cli.proofs.counting.count_line.Goals as goal

pub returns-clause-serves : goal.returns-clause-serves
returns-clause-serves c =
    let st = c.args.session.now in
    let n = c.args.number in
    let at = kept-settled st c.requires.settled c.requires.sound n c.requires.element in
    let made : c.in-Ok.len ≡ length (encode_utf8_all (element_line n (tag_of (elements_of st.scene) n) (style_in st.scene n))) = search rules in
    serves-kept length st (kept_length c.args.lengths.now.kept.items) (kept_length c.keep.new.self.kept.items) n (style_in st.scene n) c.in-Ok.len c.requires.serves at made c.in_ok-keep.ensures.own c.keep.ensures.others
