use Rattle.std.proofs.Common.{ap, subst, ◌∙◌, arith}
use Rattle.custom_properties.specs.Plain.{AreNext, flag_at}
use Rattle.custom_properties.proofs.EntryLemmas.{length_of_entries}
use Rattle.custom_properties.proofs.ReachLemmas.{after_more, after_all}
use Rattle.custom_properties.proofs.plain.is_on_cycle.Goals as goal

pub loop-step-preserved : goal.loop-step-preserved
loop-step-preserved c =
    let to = c.args.place in
    let reach = c.loop-step.reach.items in
    let next = c.in_ok-reach-2.reach.items in
    let over = subst (λ l. AreNext c.args.edges.now to l next) c.deref.ensures.value c.in_ok-reach-2.ensures in
    after_more c.args.declared.now to c.requires.within c.loop-step._step reach next c.loop-step.invariant
    (subst (λ l. AreNext l to reach next) c.requires.graph over)

pub returns : goal.returns
returns c =
    let declared = c.args.declared.now in
    let to = c.args.place in
    let reach = c.loop-step.reach.items in
    let many = length_of_entries declared c.entries-count.result.now c.entries-count.ensures in
    c.is_set.ensures
    ∙ (ap (λ l. flag_at l to) c.deref-2.ensures.value
    ∙ after_all declared to c.requires.within c.loop-step._step reach (omega arith) c.loop-step.invariant)
