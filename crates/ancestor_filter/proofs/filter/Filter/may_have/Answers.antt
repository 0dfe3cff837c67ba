use Rattle.std.proofs.Common.{◌%◌, nat_lt, ap, ◌∙◌}
use Rattle.std.specs.Str.{chars}
use Rattle.ancestor_model.specs.Counts.{slot_count, counter_at}
use Rattle.ancestor_filter.proofs.NameLemmas.{none_named}
use Rattle.ancestor_filter.proofs.filter.Filter.may_have.Goals as goal

pub returns : goal.returns
returns c =
    let name = chars c.args.name.now in
    let counters = c.args.self.now in
    let of_name = c.slot_of_key.ensures ∙ ap (λ k. k % slot_count) c.key_of_text.ensures.characters in
    let counted = c.may_have_slot.ensures ∙ ap (λ s. nat_lt 0 (counter_at counters s)) of_name in
    record { counter = counted; none = none_named counters name c.may_have_slot.result counted }
