use Rattle.std.proofs.Common.{ap, arith, length}
use Rattle.report_text.proofs.LengthLemmas.{limit_bytes}
use Rattle.report_text.proofs.lengths.limit_len.Goals as goal

pub returns-clause-length : goal.returns-clause-length
returns-clause-length c = omega (arith, limit_bytes c.args.kind c.args.most, ap length c.name.ensures)
