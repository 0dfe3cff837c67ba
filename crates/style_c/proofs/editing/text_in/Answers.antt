use Rattle.style_c.proofs.ToldLemmas.{is_text_in, no_text_in}
use Rattle.style_c.proofs.editing.text_in.Goals as goal

pub returns-in-Ok : goal.returns-in-Ok
returns-in-Ok c =
    let text = c.in-Ok.ensures.cases in
    (is_text_in c.args.bytes.now c.if-bytes-gt-INPUT_LIMIT.false text.1, text.0)

pub returns-in-Err : goal.returns-in-Err
returns-in-Err c = no_text_in c.args.bytes.now c.if-bytes-gt-INPUT_LIMIT.false c.in-Err.ensures.cases.0
