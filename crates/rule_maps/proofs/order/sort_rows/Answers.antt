use Rattle.std.proofs.Common.{ap}
use Rattle.std.specs.Ordering.{is_lt}
use Rattle.std.proofs.lemmas.List.Sorted.{answers_always, ranks_by}
use Rattle.rule_maps.specs.Rows.{name_of}
use Rattle.rule_maps.proofs.OrderLemmas.{name_total, stay_named}
use Rattle.rule_maps.proofs.order.sort_rows.Goals as goal

pub returns-clause-sorted : goal.returns-clause-sorted
returns-clause-sorted c =
    c.in_ok-sort_by.ensures.sorted _ (ranks_by name_total name_of) (answers_always _ _ _ (λ f a r f' k. ap is_lt k.met))

pub returns-clause-stable : goal.returns-clause-stable
returns-clause-stable c =
    stay_named c.args.rows.now.items c.sort_by.new.self.items
    (c.in_ok-sort_by.ensures.stable _ (ranks_by name_total name_of) (answers_always _ _ _ (λ f a r f' k. ap is_lt k.met)))
