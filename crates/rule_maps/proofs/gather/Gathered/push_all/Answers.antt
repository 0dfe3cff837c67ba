use Rattle.rule_maps.proofs.GatherLemmas.{rules_none, rules_next, leaves_all, leaves_next, leaves_none}
use Rattle.rule_maps.proofs.gather.Gathered.push_all.Goals as goal

pub loop-index-init : goal.loop-index-init
loop-index-init c = leaves_all c.args.self.now _

pub loop-index-preserved : goal.loop-index-preserved
loop-index-preserved c =
    leaves_next c.args.self.now c.loop-index.self c.push_rule.new.self _ _ _ _
    (rules_next c.loop-index.index c.in_ok-number_of.field-0 c.args.rules.now c.index-rules-index.result c.loop-index-test.true c.index-rules-index.is c.in_ok-number_of.ensures
    c.deref.result.now c.deref.ensures.value)
    c.in_ok-push_rule.ensures c.loop-index.invariant

pub returns : goal.returns
returns c = leaves_none c.args.self.now c.loop-index.self _ _ (rules_none c.loop-index.index c.args.rules.now c.loop-index-test.false) c.loop-index.invariant
