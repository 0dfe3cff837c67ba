use Rattle.std.proofs.Common.{◌-◌, ap, ◌∙◌}
use Rattle.layer_model.specs.Order.{rank_in}
use Rattle.layer_order.proofs.OrderLemmas.{rank_found, rank_absent}
use Rattle.layer_order.proofs.layers.Order.rank.Goals as goal

pub returns-in-Some : goal.returns-in-Some
returns-in-Some c =
    rank_found c.self.inside.names.keys c.args.name.now c.in-Some.place c.in-Some.ensures.index
    ∙ ap (λ ns. rank_in ns c.args.name.now) c.self.view_is

pub returns-in-None : goal.returns-in-None
returns-in-None c =
    ap (λ n. n - 1) c.len.ensures.len
    ∙ (rank_absent c.self.inside.names.keys c.args.name.now c.self.invariant c.in-None.ensures.index
    ∙ ap (λ ns. rank_in ns c.args.name.now) c.self.view_is)
