use Rattle.std.proofs.Common.{ap, ◌∙◌}
use Rattle.std.specs.List.{list_any}
use Rattle.std.specs.Str.{chars}
use Rattle.base_model.specs.Text.{same_text}
use Rattle.dom_tree.proofs.ClassLemmas.{any_in_order, name-found, name-passed, named_in_order}
use Rattle.dom_tree.proofs.GivenLemmas.{compared}
use Rattle.dom_tree.proofs.NameLemmas.{text_is}
use Rattle.dom_tree.proofs.class_names.ClassNames.has_text.Goals as goal

pub returns-then-eq : goal.returns-then-eq
returns-then-eq c =
    let text = ap (λ t. same_text t (chars c.args.name.now)) (text_is c.self.inside.names.now c.class-item.result _ c.text.ensures) in
    name-found c.loop-class.invariant c.loop-class-test.true c.class-item.is (text ∙ compared _ _ _ _ c.text.utf8 c.utf8.name c.eq.ensures c.if-eq.true)

pub loop-class-preserved : goal.loop-class-preserved
loop-class-preserved c =
    let text = ap (λ t. same_text t (chars c.args.name.now)) (text_is c.self.inside.names.now c.class-item.result _ c.text.ensures) in
    name-passed c.loop-class.invariant c.loop-class-test.true c.class-item.is (text ∙ compared _ _ _ _ c.text.utf8 c.utf8.name c.eq.ensures c.if-eq.false)

pub stands_in-requires-clause-named : goal.stands_in-requires-clause-named
stands_in-requires-clause-named c = named_in_order _ c.self.invariant.in_order c.self.invariant.named

pub returns-then-self-gt-MOST_IN_TURN : goal.returns-then-self-gt-MOST_IN_TURN
returns-then-self-gt-MOST_IN_TURN c = c.stands_in.ensures ∙ (any_in_order _ _ c.self.invariant.in_order ∙ ap (list_any (same_text (chars c.args.name.now))) c.self.view_is)
