use Rattle.std.proofs.Common.{◌≡◌, drop}
use Rattle.layer_model.specs.Swapped.{rise_from}
use Rattle.layer_order.proofs.layers.Order.is_kept_in.Given as goal

abbrev pub invariant-loop-name : goal.invariant-loop-name
invariant-loop-name l =
    rise_from 0 l.after-inside.names.keys l.name-items ≡ rise_from l.least l.after-inside.names.keys (drop l.name-index l.name-items)
