use Rattle.std.proofs.Common.{map, sym, ap, ◌∙◌}
use Rattle.std.specs.List.{list_any}
use Rattle.base_model.specs.Text.{same_text}
use Rattle.dom_tree.specs.Kept.{text_of}
use Rattle.dom_tree.proofs.ClassLemmas.{any_in_order, name-found, name-passed, named_in_order}
use Rattle.dom_tree.proofs.class_names.ClassNames.has.Goals as goal

pub returns-then-is_atom : goal.returns-then-is_atom
returns-then-is_atom c = name-found c.loop-class.invariant c.loop-class-test.true c.class-item.is (sym c.is_atom.ensures ∙ c.if-is_atom.true)

pub loop-class-preserved : goal.loop-class-preserved
loop-class-preserved c = name-passed c.loop-class.invariant c.loop-class-test.true c.class-item.is (sym c.is_atom.ensures ∙ c.if-is_atom.false)

pub stands_in-requires-clause-named : goal.stands_in-requires-clause-named
stands_in-requires-clause-named c = named_in_order _ c.self.invariant.in_order c.self.invariant.named

pub returns-then-self-gt-MOST_IN_TURN : goal.returns-then-self-gt-MOST_IN_TURN
returns-then-self-gt-MOST_IN_TURN c =
    c.stands_in.ensures
    ∙ (ap (λ t. list_any (same_text t) (map (text_of c.self.inside.names.now) c.self.inside.sorted.now)) c.as_str.ensures.characters
    ∙ (any_in_order _ _ c.self.invariant.in_order ∙ ap (list_any (same_text c.args.name.now)) c.self.view_is))
