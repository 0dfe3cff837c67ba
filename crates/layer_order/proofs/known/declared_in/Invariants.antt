use Rattle.std.proofs.Common.{◌≡◌, take}
use Rattle.layer_model.specs.Order.{declared, names_of}
use Rattle.layer_order.specs.View.{declarations, origin_of}
use Rattle.layer_order.proofs.known.declared_in.Given as goal

abbrev pub invariant-loop-from : goal.invariant-loop-from
invariant-loop-from l =
    l.known.keys ≡ declared (names_of (origin_of l.origin) (declarations (take l.from-index l.list)))
