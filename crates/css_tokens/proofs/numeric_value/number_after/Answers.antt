use Rattle.std.proofs.Common.{◌≡◌, ◌*◌, ◌+◌, ◌-◌, min, arith}
use Rattle.css_tokens.proofs.DecimalLemmas.{number_more}
use Rattle.css_tokens.proofs.numeric_value.number_after.Goals as goal

pub loop-digit-preserved : goal.loop-digit-preserved
loop-digit-preserved c =
    let next : c.min-number.result ≡ min c.args.most (10 * c.loop-digit.number + (c.digit-item.result - 48)) = omega arith in
    record {
      within = omega arith;
      value = number_more _ _ _ _ _ _ _ c.loop-digit.invariant.value c.loop-digit-test.true c.digit-item.is next;
    }
