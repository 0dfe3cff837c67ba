use Rattle.std.proofs.Common.{arith}
use Rattle.custom_properties.proofs.EntryLemmas.{length_of_entries}
use Rattle.custom_properties.proofs.RoundLemmas.{cyclic_more}
use Rattle.custom_properties.proofs.plain.cyclic_places.Goals as goal

pub loop-place-preserved : goal.loop-place-preserved
loop-place-preserved c =
    let declared = c.args.declared.now in
    let many = length_of_entries declared c.entries-place-end.result.now c.entries-place-end.ensures in
    cyclic_more declared c.loop-place.place c.in_ok-is_on_cycle.field-0 c.loop-place.flags.items c.push.new.self.items
    (omega arith) c.in_ok-is_on_cycle.ensures c.in_ok-push.ensures.items c.loop-place.invariant
