use Rattle.std.proofs.Common.{arith}
use Rattle.report_text.proofs.LengthLemmas.{batch_line_bytes}
use Rattle.report_text.proofs.lengths.batch_line_len.Goals as goal

pub returns : goal.returns
returns c =
    omega (arith, batch_line_bytes c.args.batch c.args.accepted c.args.refused c.args.matched c.args.cascaded)
