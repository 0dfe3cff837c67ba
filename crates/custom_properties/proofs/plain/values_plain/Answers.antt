use Rattle.std.proofs.Common.{None, replicate, ap, ◌∙◌, arith}
use Rattle.custom_properties.proofs.EntryLemmas.{length_of_entries}
use Rattle.custom_properties.proofs.RoundLemmas.{round_first, round_more, round_last}
use Rattle.custom_properties.proofs.plain.values_plain.Goals as goal

pub loop-round-init : goal.loop-round-init
loop-round-init c =
    let declared = c.args.declared.now in
    let many = length_of_entries declared c.entries-count.result.now c.entries-count.ensures in
    let none = c.deref-2.ensures.value ∙ (c.in_ok-none.ensures ∙ ap (λ n. replicate n None) many) in
    round_first declared c.args.inherited.now c.deref-2.result.now c.empty-empty.result none c.empty-empty.ensures
    c.in_ok-values.values.items c.in_ok-values.ensures

pub loop-round-preserved : goal.loop-round-preserved
loop-round-preserved c =
    round_more c.args.declared.now c.args.inherited.now c.loop-round._round c.loop-round.values.items
    c.deref-in-loop-round-2.result.now c.in_ok-values-2.values.items c.loop-round.invariant
    c.deref-in-loop-round-2.ensures.value c.in_ok-values-2.ensures

pub returns : goal.returns
returns c =
    let declared = c.args.declared.now in
    let values = c.loop-round.values.items in
    let many = length_of_entries declared c.entries-count.result.now c.entries-count.ensures in
    round_last declared c.args.inherited.now c.loop-round._round values (omega arith) c.loop-round.invariant
