use Rattle.std.proofs.Common.{◌≡◌, ◌+◌, ◌*◌, ◌-◌, flat_map, map, take}
use Rattle.layer_model.specs.Order.{below, with_names}
use Rattle.layer_order.specs.Known.{layer_at}
use Rattle.layer_order.proofs.nesting.Nesting.+below.Given as goal

abbrev pub decreases-add_below : goal.decreases-add_below
decreases-add_below l = 2 * l.levels + 1

abbrev pub decreases-add_inner : goal.decreases-add_inner
decreases-add_inner l = 2 * l.levels

abbrev pub invariant-add_inner-loop-inside : goal.invariant-add_inner-loop-inside
invariant-add_inner-loop-inside l =
    let layers = l.self.layers.keys in
    l.order.keys ≡ with_names l.fn.order.keys (flat_map (below (l.levels - 1) layers) (map (layer_at layers) (take l.inside-index l.inside-items)))
