use Rattle.custom_properties.specs.KnownView.{known_in}
use Rattle.custom_properties.proofs.RoundLemmas.{over_more}
use Rattle.custom_properties.proofs.plain.next_values.Goals as goal

pub loop-place-preserved : goal.loop-place-preserved
loop-place-preserved c =
    let declared = c.args.declared.now in
    over_more declared c.args.inherited.now c.args.cyclic.now c.requires c.entries-entry-items.result.now
    c.entries-entry-items.ensures c.loop-place.place c.loop-place-test.true
    (known_in declared c.args.values.now c.args.others.now) c.entry-item.result c.is_set.result
    c.in_ok-next_value.field-0 c.loop-place.next.items c.push.new.self.items
    c.entry-item.is c.is_set.ensures c.in_ok-next_value.ensures c.in_ok-push.ensures.items c.loop-place.invariant
