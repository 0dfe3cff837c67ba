use Rattle.std.proofs.Common.{length, sym, ◌∙◌}
use Rattle.session_model.specs.Standing.{style_in}
use Rattle.style_lines.specs.KeptLines.{kept_length}
use Rattle.style_cli.proofs.ServeLemmas.{kept_one}
use Rattle.style_cli.proofs.SettledLemmas.{kept-settled}
use Rattle.style_cli.proofs.counting.line_len.Goals as goal

pub returns-in-Some-clause-len : goal.returns-in-Some-clause-len
returns-in-Some-clause-len c =
    let st = c.args.session.now in
    let n = c.args.number in
    let at = kept-settled st c.requires.settled c.requires.sound n c.requires.element in
    c.from.ensures ∙ kept_one length st (kept_length c.args.lengths.now.kept.items) n (style_in st.scene n) c.in-Some.len c.requires.serves at (sym c.of.ensures ∙ c.in-Some.is)
