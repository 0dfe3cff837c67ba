use Rattle.std.proofs.Common.{refl, ap, ◌∙◌, min}
use Rattle.syntax_model.specs.Numbers.{decimal_number}
use Rattle.css_tokens.specs.Decimal.{many}
use Rattle.css_tokens.proofs.DecimalLemmas.{front_is, is_cut}
use Rattle.css_tokens.proofs.numeric_value.front.Goals as goal

pub returns : goal.returns
returns c =
    let one = is_cut _ _ _ _ _ c.at_most.ensures c.split_at.ensures.front c.split_at.ensures.back in
    let two = is_cut _ _ _ _ _ c.at_most-2.ensures c.split_at-2.ensures.front c.split_at-2.ensures.back in
    let number = c.number_after-number.ensures ∙ ap (λ n. min many (decimal_number n c.split_at-2.result.0.now)) c.number_after.ensures in
    c.with_zeros.ensures ∙ front_is _ _ _ _ _ _ c.args.kept _ _ _ one two number c.half.ensures.value refl
