use Rattle.std.proofs.Common.{Some, sym, ap, ◌∙◌}
use Rattle.css_rules.specs.Reading.{Reading}
use Rattle.css_rules.proofs.ReaderLemmas.{is_layer}
use Rattle.css_rules.proofs.rule_reader.RuleReader.next_rule.Goals as goal

pub returns-in_ok-share-in-Some-Layer-clause-rule : goal.returns-in_ok-share-in-Some-Layer-clause-rule
returns-in_ok-share-in-Some-Layer-clause-rule c =
    let kind = sym c.in_ok-next.ensures.kind ∙ (c.in-Some-Layer.is ∙ ap (λ kind. Some kind) c.in-Some-Layer.field-0-is) in
    is_layer _ _ kind (λ rule is. c.in_ok-share-in-Some-Layer.ensures ∙ c.context.ensures rule is)
    ∙ ap (λ (r : Reading). r.current) c.in_ok-next.ensures.rule
