use Rattle.std.proofs.Common.{arith}
use Rattle.std.proofs.lemmas.Fmt.{decimal_nonempty, length-decimal-le}
use Rattle.stylo_base.proofs.NumberLemmas.{length_one, length_step}
use Rattle.report_text.proofs.lengths.digits.Goals as goal

pub overflow_add-count : goal.overflow_add-count
overflow_add-count c =
    omega (arith, decimal_nonempty c.loop-rest.rest c.loop-rest.auto.rest-fits.fits, length-decimal-le 20 c.args.number (omega arith) (omega arith) (omega arith))

pub loop-rest-preserved : goal.loop-rest-preserved
loop-rest-preserved c = omega (arith, length_step c.loop-rest.rest (omega arith) c.loop-rest.auto.rest-fits.fits)

pub returns-clause-count : goal.returns-clause-count
returns-clause-count c = omega (arith, length_one c.loop-rest.rest (omega arith))

pub returns-clause-bound : goal.returns-clause-bound
returns-clause-bound c =
    omega (arith, length_one c.loop-rest.rest (omega arith), length-decimal-le 20 c.args.number (omega arith) (omega arith) (omega arith))
