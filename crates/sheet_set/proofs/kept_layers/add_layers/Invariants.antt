use Rattle.std.proofs.Common.{◌≡◌, ◌++◌, take}
use Rattle.layer_order.specs.View.{declarations}
use Rattle.sheet_set.proofs.kept_layers.add_layers.Given as goal

abbrev pub invariant-loop-layer : goal.invariant-loop-layer
invariant-loop-layer l = declarations l.found.items ≡ declarations l.initial.found.items ++ declarations (take l.layer-index l.layers)
