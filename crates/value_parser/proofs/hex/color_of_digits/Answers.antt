use Rattle.std.proofs.Common.{sym, ◌∙◌, arith}
use Rattle.value_parser.proofs.HexLemmas.{eight_digits, other_digits}
use Rattle.value_parser.proofs.hex.color_of_digits.Goals as goal

pub returns-in-len8 : goal.returns-in-len8
returns-in-len8 c =
    eight_digits c.args.digits.now _ _ _ _ (sym c.are_digits.ensures.test ∙ c.if-not-are_digits.false) (omega arith) c.pair-in-len8.ensures c.pair-in-len8-2.ensures c.pair-in-len8-3.ensures c.pair-in-len8-4.ensures

pub returns-in_default : goal.returns-in_default
returns-in_default c =
    other_digits c.args.digits.now (λ e. omega arith) (λ e. omega arith) (λ e. omega arith) (λ e. omega arith)

pub returns-in_default-2 : goal.returns-in_default-2
returns-in_default-2 c =
    other_digits c.args.digits.now (λ e. omega arith) (λ e. omega arith) (λ e. omega arith) (λ e. omega arith)

pub returns-in_default-3 : goal.returns-in_default-3
returns-in_default-3 c =
    other_digits c.args.digits.now (λ e. omega arith) (λ e. omega arith) (λ e. omega arith) (λ e. omega arith)

pub returns-in_default-4 : goal.returns-in_default-4
returns-in_default-4 c =
    other_digits c.args.digits.now (λ e. omega arith) (λ e. omega arith) (λ e. omega arith) (λ e. omega arith)
