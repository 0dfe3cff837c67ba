use Rattle.std.proofs.Common.{ap, arith, decimal, length}
use Rattle.report_text.proofs.LengthLemmas.{element_line_bytes}
use Rattle.report_text.proofs.lengths.element_line_len.Goals as goal

pub returns : goal.returns
returns c =
    omega (arith, element_line_bytes c.args.number c.args.tag.now c.args.style.now (omega arith) c.utf8.tag, c.digits.ensures.count, ap (λ n. length (decimal n)) c.from.ensures, c.declarations_len.ensures.length)
