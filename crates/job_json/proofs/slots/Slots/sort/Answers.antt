use Rattle.std.proofs.Common.{ap}
use Rattle.std.specs.Cmp.Lexicographic.{nat_list_cmp_total}
use Rattle.std.specs.Ordering.{is_lt}
use Rattle.std.proofs.lemmas.List.Sorted.{answers_always, ranks_by}
use Rattle.job_json.specs.declared.slots.Slot.{Slot}
use Rattle.job_json.specs.Slots.{slots_of}
use Rattle.job_json.proofs.LatestLaws.{latest-sorted}
use Rattle.job_json.proofs.slots.Slots.sort.Goals as goal

pub returns-clause-sorted : goal.returns-clause-sorted
returns-clause-sorted c ms kept many =
    let sorted = c.in_ok-sort_by.ensures in
    let ranks = ranks_by nat_list_cmp_total (λ (slot : Slot). slot.name.now) in
    latest-sorted c.args.self.now.list.items c.sort_by.new.self.items (sorted.sorted _ ranks (answers_always _ _ _ (λ f a r f' k. ap is_lt k.met)))
    (sorted.stable _ ranks (answers_always _ _ _ (λ f a r f' k. ap is_lt k.met)))
    (slots_of ms) kept.rise (kept.many many).1
