use Rattle.rule_maps.proofs.GatherLemmas.{in_rule_none, in_rule_next, leaves_all, leaves_next, leaves_none}
use Rattle.rule_maps.proofs.gather.Gathered.push_rule.Goals as goal

pub loop-index-init : goal.loop-index-init
loop-index-init c = leaves_all c.args.self.now _

pub loop-index-preserved : goal.loop-index-preserved
loop-index-preserved c =
    let at = c.loop-index.index in
    leaves_next c.args.self.now c.loop-index.self c.push_selector.new.self _ _ _ _
    (in_rule_next c.args.rule at c.in_ok-number_of.field-0 c.args.selectors.now c.index-selectors-index.result c.loop-index-test.true c.index-selectors-index.is c.in_ok-number_of.ensures)
    c.in_ok-push_selector.ensures c.loop-index.invariant

pub returns : goal.returns
returns c = leaves_none c.args.self.now c.loop-index.self _ _ (in_rule_none c.args.rule c.loop-index.index c.args.selectors.now c.loop-index-test.false) c.loop-index.invariant
