use Rattle.std.proofs.Common.{arith}
use Rattle.custom_properties.proofs.OrderLemmas.{apart_more}
use Rattle.custom_properties.proofs.ordered.values_apart.Goals as goal

pub loop-entry-preserved : goal.loop-entry-preserved
loop-entry-preserved c =
    apart_more c.args.declared.now c.args.inherited.now c.requires c.entries-entry-items.result.now c.entries-entry-items.ensures c.loop-entry.entry-index c.entry-item.result c.loop-entry.values.items c.in_ok-computed.field-0 c.push.new.self.items (omega arith) c.entry-item.is c.in_ok-computed.ensures c.in_ok-push.ensures.items c.loop-entry.invariant
