use Rattle.std.proofs.Common.{length, ◌∙◌}
use Rattle.std.proofs.lemmas.Result.{IfOk-weaker}
use Rattle.style_lines.specs.KeptLines.{kept_length}
use Rattle.style_cli.specs.Printing.{IsHeadingOf, edits_seen}
use Rattle.style_cli.proofs.EditedLemmas.{are_refused}
use Rattle.style_cli.proofs.ServeLemmas.{serves-batch}
use Rattle.style_cli.proofs.SumLemmas.{batch_summed}
use Rattle.style_cli.proofs.summing.summed_batch.Goals as goal

pub counted-requires-clause-refused : goal.counted-requires-clause-refused
counted-requires-clause-refused g c =
    are_refused c.args.session.now c.args.edits.now c.in_ok-heading.heading.refused.items c.in_ok-heading.ensures.refused

pub counted-requires-clause-serves : goal.counted-requires-clause-serves
counted-requires-clause-serves g c =
    let made = c.in_ok-heading.ensures in
    serves-batch length c.args.session.now c.make_batch.new.session c.requires.reached (edits_seen c.args.edits.now) made.shaped made.session
    (kept_length c.args.lengths.now.kept.items) (kept_length c.forget.new.self.kept.items) c.cascaded.result.now c.requires.serves c.cascaded.ensures.list c.forget.ensures.gone c.forget.ensures.left

pub returns-clause-sums : goal.returns-clause-sums
returns-clause-sums g c =
    let made = c.in_ok-heading.ensures in
    let edits = edits_seen c.args.edits.now in
    let told : IsHeadingOf c.args.session.now edits c.in_ok-heading.heading = record { accepted = made.accepted; refused = made.refused; counts = made.counts } in
    let same = batch_summed c.args.number c.args.session.now c.make_batch.new.session edits c.in_ok-heading.heading told made.session in
    IfOk-weaker c.counted.result _ _ (λ one is. is ∙ same) c.counted.ensures.sums
