use Rattle.std.proofs.Common.{◌≡◌, ◌/◌, arith, rules, unsigned_abs}
use Rattle.std.proofs.lemmas.Fmt.{length-decimal-le}
use Rattle.stylo_base.proofs.NumberLemmas.{printed_number-IsAscii}
use Rattle.stylo_base.proofs.number_text.write_fixed.Goals as goal

pub write_whole-start-requires : goal.write_whole-start-requires
write_whole-start-requires c =
    let long = length-decimal-le 17 (c.unsigned_abs-size.result / 1000) (omega arith) (omega arith) (omega arith) in (omega arith, omega arith)

pub write_byte-requires : goal.write_byte-requires
write_byte-requires c =
    let long = length-decimal-le 17 (c.unsigned_abs-size.result / 1000) (omega arith) (omega arith) (omega arith) in (omega arith, omega arith)

pub returns-then-thousandths-lt0-clause-ascii : goal.returns-then-thousandths-lt0-clause-ascii
returns-then-thousandths-lt0-clause-ascii c =
    let is : c.unsigned_abs-size.result ≡ unsigned_abs c.args.number = search rules in
    printed_number-IsAscii c.args.number (omega arith)

pub returns-clause-ascii : goal.returns-clause-ascii
returns-clause-ascii c =
    let is : c.unsigned_abs-size.result ≡ unsigned_abs c.args.number = search rules in
    printed_number-IsAscii c.args.number (omega arith)
