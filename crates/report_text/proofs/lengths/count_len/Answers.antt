use Rattle.std.proofs.Common.{arith}
use Rattle.report_text.proofs.LengthLemmas.{counted_bytes}
use Rattle.report_text.proofs.lengths.count_len.Goals as goal

pub returns-clause-length : goal.returns-clause-length
returns-clause-length c =
    omega (arith, counted_bytes c.args.before.now c.args.count c.utf8.before c.requires (omega arith))
