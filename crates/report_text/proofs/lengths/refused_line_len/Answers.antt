use Rattle.std.proofs.Common.{arith}
use Rattle.report_text.proofs.LengthLemmas.{refused_line_bytes}
use Rattle.report_text.proofs.lengths.refused_line_len.Goals as goal

pub returns : goal.returns
returns c = omega (arith, refused_line_bytes c.args.place c.args.why.now)
