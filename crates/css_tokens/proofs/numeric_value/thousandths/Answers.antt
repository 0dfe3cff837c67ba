use Rattle.std.proofs.Common.{◌∙◌, ◌<◌, ◌^◌, length, arith}
use Rattle.syntax_model.specs.Numbers.{exponent_size, exponent_text, is_minus}
use Rattle.css_tokens.proofs.DecimalLemmas.{size_moved, thousandths_are}
use Rattle.css_tokens.proofs.numeric_value.thousandths.Goals as goal

pub returns : goal.returns
returns c =
    let few : length c.parts.result.whole.now < 2 ^ 64 = omega arith in
    let some : length c.parts.result.fraction.now < 2 ^ 64 = omega arith in
    let text = c.args.spelling.now in
    let moved = size_moved _ _ (is_minus (exponent_text text)) (exponent_size text) _ _ c.parts.ensures.whole_digits c.parts.ensures.fraction_digits few some c.parts.ensures.raised c.parts.ensures.lowered in
    c.signed.ensures ∙ thousandths_are text _ _ _ _ c.is_minus.ensures c.parts.ensures.digits c.parts.ensures.fraction (c.size-size.ensures ∙ moved)
