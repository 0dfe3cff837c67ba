use Rattle.std.proofs.Common.{sym, ap, ◌∙◌}
use Rattle.css_rules.specs.Left.{rules_left}
use Rattle.css_rules.specs.Reading.{Reading}
use Rattle.css_rules.proofs.ReaderLemmas.{to_layer, to_style}
use Rattle.css_rules.proofs.rule_reader.RuleReader.next.Goals as goal

pub returns-then-branch-clause-rule : goal.returns-then-branch-clause-rule
returns-then-branch-clause-rule c =
    let same = ap (λ (r : Reading). r.left) (sym c.self.view_is) ∙ (ap (λ walk. rules_left walk c.self.inside.tokens) (sym c.forget.ensures) ∙ c.in_ok-find.ensures.rules) in
    sym (to_style c.find.new.parser c.find.new.tokens _ c.in_ok-find.field-0 c.if-branch.true same)

pub returns-clause-rule : goal.returns-clause-rule
returns-clause-rule c =
    let same = ap (λ (r : Reading). r.left) (sym c.self.view_is) ∙ (ap (λ walk. rules_left walk c.self.inside.tokens) (sym c.forget.ensures) ∙ c.in_ok-find.ensures.rules) in
    sym (to_layer c.find.new.parser c.pop_front.new.self.items c.in-Some.layer c.find.new.tokens _ c.in_ok-find.field-0 c.if-branch.false c.in-Some.ensures.items same)
