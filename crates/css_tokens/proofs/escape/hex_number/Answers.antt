use Rattle.std.proofs.Common.{arith}
use Rattle.css_tokens.proofs.HexLemmas.{digit_more, hex_at, room}
use Rattle.css_tokens.proofs.escape.hex_number.Goals as goal

pub overflow_mul-number : goal.overflow_mul-number
overflow_mul-number c =
    let few = room c.loop-digit.digit-index c.loop-digit.number (omega (arith, c.loop-digit-test.true, c.requires.few)) c.loop-digit.invariant.bound in
    omega (arith, few)

pub overflow_add-number : goal.overflow_add-number
overflow_add-number c =
    let few = room c.loop-digit.digit-index c.loop-digit.number (omega (arith, c.loop-digit-test.true, c.requires.few)) c.loop-digit.invariant.bound in
    let small = c.hex_value.ensures.small (rw c.digit-item.is (hex_at c.args.digits.now c.loop-digit.digit-index _ c.requires.all c.loop-digit-test.true)) in
    omega (arith, few, small)

pub loop-digit-preserved : goal.loop-digit-preserved
loop-digit-preserved c =
    let small = c.hex_value.ensures.small (rw c.digit-item.is (hex_at c.args.digits.now c.loop-digit.digit-index _ c.requires.all c.loop-digit-test.true)) in
    digit_more _ _ _ _ _ c.loop-digit.invariant c.loop-digit-test.true c.digit-item.is c.hex_value.ensures.value small
