use Rattle.std.proofs.Common.{ap}
use Rattle.std.specs.Ordering.{is_lt}
use Rattle.std.proofs.lemmas.List.Sorted.{answers_always, ranks_by}
use Rattle.cascade_core.specs.View.{head_of}
use Rattle.cascade_core.proofs.ByNameLemmas.{by_name-total, are_by_name, without_others}
use Rattle.cascade_core.proofs.names.sorted_by_name.Goals as goal

pub returns : goal.returns
returns c =
    let sorted = c.in_ok-sort_by.ensures in
    let ranks = ranks_by by_name-total head_of in
    let up = sorted.sorted _ ranks (answers_always _ _ _ (λ f a r f' k. ap is_lt k.met)) in
    let stable = sorted.stable _ ranks (answers_always _ _ _ (λ f a r f' k. ap is_lt k.met)) in
    without_others _ _ _ c.in_ok-list.ensures (are_by_name head_of c.in_ok-list.list.items c.sort_by.new.self.items up sorted.permutation stable)
