use Rattle.std.proofs.Common.{◌∙◌, arith}
use Rattle.layer_model.specs.Order.{names_of}
use Rattle.layer_order.specs.View.{declarations, origin_of}
use Rattle.layer_order.proofs.OrderLemmas.{in_order, IsOrder-order}
use Rattle.layer_order.proofs.layers.Order.of.Goals as goal

pub invariant_of-result : goal.invariant_of-result
invariant_of-result c =
    let names = names_of (origin_of c.args.origin) (declarations c.args.list.now) in
    let order = in_order names c.in_ok-nesting.nesting.layers.keys c.in_ok-names.names.keys (c.in_ok-nesting.ensures.same ∙ c.in_ok-declared_in.ensures) c.in_ok-names.ensures in
    IsOrder-order names c.in_ok-names.names.keys c.len.result order c.len.ensures.len (omega arith)

pub returns : goal.returns
returns c =
    let names = names_of (origin_of c.args.origin) (declarations c.args.list.now) in
    in_order names c.in_ok-nesting.nesting.layers.keys c.in_ok-names.names.keys (c.in_ok-nesting.ensures.same ∙ c.in_ok-declared_in.ensures) c.in_ok-names.ensures
