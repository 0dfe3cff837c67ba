-- Digits as text: they do not compute, so examples of printed lines name them.
use Rattle.std.specs.Prelude.{◌≡◌, codes, decimal}
use Rattle.std.proofs.Common.{arith}
use Rattle.std.proofs.lemmas.Fmt.{decimal_digit}

pub digit_0 : decimal 0 ≡ codes "0"
digit_0 = decimal_digit 0 (omega arith)

pub digit_1 : decimal 1 ≡ codes "1"
digit_1 = decimal_digit 1 (omega arith)
