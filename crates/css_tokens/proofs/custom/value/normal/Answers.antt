use Rattle.std.proofs.Common.{◌∷◌, [], ◌++◌, false, map, sym, ap, ◌∙◌}
use Rattle.syntax_model.specs.Token.{said}
use Rattle.custom_model.specs.Value.{spaced, unplaced}
use Rattle.css_tokens.proofs.SpacedLemmas.{normal_from, normal_none}
use Rattle.css_tokens.proofs.custom.value.normal.Goals as goal

pub returns-in_default : goal.returns-in_default
returns-in_default c =
    c.new-list.ensures.items
    ∙ sym (ap (map unplaced) (normal_none c.args.tokens.now c.without_white.result.now c.without_white.ensures c.in_default.ensures.cases))

pub returns : goal.returns
returns c =
    c.in_ok-append_spaced.ensures
    ∙ (ap (λ l. l ++ map unplaced (spaced false (map said c.in-Some.rest.now))) (c.in_ok-push.ensures.items ∙ (ap (λ l. l ++ c.in_ok-bare.field-0 ∷ []) c.new-list.ensures.items ∙ ap (λ t. t ∷ []) c.in_ok-bare.ensures))
    ∙ sym (ap (map unplaced) (normal_from c.args.tokens.now c.without_white.result.now c.in-Some.first.now c.in-Some.rest.now c.without_white.ensures c.in-Some.ensures.cases.0)))
