use Rattle.std.proofs.Common.{ap}
use Rattle.std.specs.Ordering.{is_lt}
use Rattle.std.proofs.lemmas.Fn.{always_returns_same}
use Rattle.std.proofs.lemmas.List.MinMax.{IsStrictWeakOrder-flip}
use Rattle.std.proofs.lemmas.List.Sorted.{ranks_by}
use Rattle.cascade_model.specs.Key.{key_cmp}
use Rattle.cascade_model.proofs.KeyOrder.{key_cmp-total}
use Rattle.property_table.specs.View.{property_of}
use Rattle.cascade_core.specs.View.{entry_of}
use Rattle.cascade_core.proofs.SortedLemmas.{first_seen}
use Rattle.cascade_core.proofs.rollback.descending.Goals as goal

pub returns : goal.returns
returns c =
    let sorted = c.in_ok-sort_by.ensures in
    let seen = entry_of (property_of c.args.id) in
    let ranks = IsStrictWeakOrder-flip _ (ranks_by key_cmp-total seen) in
    let up = sorted.sorted _ ranks (always_returns_same _ _ _ (λ a r f' k. (ap is_lt k.met.1, ap (λ x. record { 0 = x }) k.met.0))) in
    let stable = sorted.stable _ ranks (always_returns_same _ _ _ (λ a r f' k. (ap is_lt k.met.1, ap (λ x. record { 0 = x }) k.met.0))) in
    λ passes.
    rw (← c.in_ok-list.ensures)
    (first_seen key_cmp key_cmp-total seen passes c.in_ok-list.list.items c.sort_by.new.self.items up sorted.permutation stable)
