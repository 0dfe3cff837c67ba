use Rattle.css_tokens.proofs.DecimalLemmas.{fraction_is_digits, whole_digits}
use Rattle.css_tokens.proofs.numeric_value.parts.Goals as goal

pub returns-clause-whole_digits : goal.returns-clause-whole_digits
returns-clause-whole_digits c = rw (c.split_at-2.ensures.front, c.digits_len.ensures.value) (whole_digits c.split_at.result.1.now)

pub returns-clause-fraction_digits : goal.returns-clause-fraction_digits
returns-clause-fraction_digits c =
    rw (c.without_first.ensures, c.split_at-3.ensures.front, c.fraction_len.ensures.value) (fraction_is_digits c.split_at-2.result.1.now)
