use Rattle.std.proofs.Common.{arith}
use Rattle.dom_edits.proofs.JudgeLemmas.{count_met, node_met, value_met}
use Rattle.dom_edits.proofs.refusals.past_by_itself.Goals as goal

pub returns-then-attribute_count-gt-ATTRIBUTE_LIMIT : goal.returns-then-attribute_count-gt-ATTRIBUTE_LIMIT
returns-then-attribute_count-gt-ATTRIBUTE_LIMIT c =
    count_met c.args.nodes.now c.loop-index.index (omega (arith, c.loop-index-test.true, c.len-index-end.ensures.count)) c.loop-index.invariant c.attribute_count.result c.attribute_count.ensures c.if-attribute_count-gt-ATTRIBUTE_LIMIT.true

pub returns-then-longest_value-gt-VALUE_LIMIT : goal.returns-then-longest_value-gt-VALUE_LIMIT
returns-then-longest_value-gt-VALUE_LIMIT c =
    value_met c.args.nodes.now c.loop-index.index (omega (arith, c.loop-index-test.true, c.len-index-end.ensures.count)) c.loop-index.invariant c.attribute_count.result c.attribute_count.ensures c.longest_value.result c.longest_value.ensures c.if-attribute_count-gt-ATTRIBUTE_LIMIT.false c.if-longest_value-gt-VALUE_LIMIT.true

pub loop-index-preserved : goal.loop-index-preserved
loop-index-preserved c =
    node_met c.args.nodes.now c.loop-index.index (omega (arith, c.loop-index-test.true, c.len-index-end.ensures.count)) c.loop-index.invariant c.attribute_count.result c.attribute_count.ensures c.longest_value.result c.longest_value.ensures c.if-attribute_count-gt-ATTRIBUTE_LIMIT.false c.if-longest_value-gt-VALUE_LIMIT.false
