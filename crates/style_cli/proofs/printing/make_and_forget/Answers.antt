use Rattle.style_lines.specs.KeptLines.{kept_line}
use Rattle.style_cli.specs.Printing.{edits_seen}
use Rattle.style_cli.proofs.ServeLemmas.{serves-batch}
use Rattle.style_cli.proofs.printing.make_and_forget.Goals as goal

pub returns-clause-heading : goal.returns-clause-heading
returns-clause-heading g c =
    let made = c.in_ok-heading.ensures in
    record { accepted = made.accepted; refused = made.refused; counts = made.counts }

pub returns-clause-serves : goal.returns-clause-serves
returns-clause-serves g c =
    let made = c.in_ok-heading.ensures in
    serves-batch (λ l. l) c.args.session.now c.make_batch.new.session c.requires.reached (edits_seen c.args.edits.now) made.shaped made.session
    (kept_line c.args.lines.now) (kept_line c.forget.new.self) c.cascaded.result.now c.requires.serves c.cascaded.ensures.list c.forget.ensures.gone c.forget.ensures.left
