use Rattle.std.proofs.Common.{arith, append_assoc}
use Rattle.std.proofs.lemmas.Fmt.{decimal_digit, decimal_step}
use Rattle.stylo_base.proofs.NumberLemmas.{length_one, length_step}
use Rattle.stylo_base.proofs.number_text.write_whole.Goals as goal

pub write_digit-at-requires : goal.write_digit-at-requires
write_digit-at-requires c =
    let l = c.loop-left in
    let step = length_step l.left (omega arith) l.auto.left-fits.fits in (omega arith, omega arith, omega arith)

pub loop-left-preserved : goal.loop-left-preserved
loop-left-preserved c =
    let l = c.loop-left in
    let step = length_step l.left (omega arith) l.auto.left-fits.fits in
    (omega arith, omega arith, omega arith, rw (c.write_digit-at.ensures.written) (rw (decimal_step l.left (omega arith) l.auto.left-fits.fits, append_assoc) at l.invariant.3))

pub write_digit-requires : goal.write_digit-requires
write_digit-requires c =
    let l = c.loop-left in
    let one = length_one l.left (omega arith) in (omega arith, omega arith, omega arith)

pub returns-clause-begin : goal.returns-clause-begin
returns-clause-begin c =
    let l = c.loop-left in
    let one = length_one l.left (omega arith) in omega arith

pub returns-clause-written : goal.returns-clause-written
returns-clause-written c =
    let l = c.loop-left in
    rw (c.write_digit.ensures.written) (rw (decimal_digit l.left (omega arith)) at l.invariant.3)
