use Rattle.std.proofs.lemmas.Result.{on_err_weaker}
use Rattle.style_lines.proofs.Fronts.{rest_begun}
use Rattle.style_lines.proofs.writing.write_all.Goals as goal

pub returns-then-taken-piece-clause-err : goal.returns-then-taken-piece-clause-err
returns-then-taken-piece-clause-err g c =
    on_err_weaker c.write_rest.result (rest_begun _ _ _ c.args.piece.now c.split_at.result.1.now c.in_ok-taken.taken c.split_at.ensures.back c.in_ok-taken.ensures.bytes) c.write_rest.ensures.err
