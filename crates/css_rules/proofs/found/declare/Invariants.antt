use Rattle.std.proofs.Common.{◌≡◌, ◌++◌}
use Rattle.css_rules.specs.Parser.{layers_of}
use Rattle.css_rules.proofs.found.declare.Given as goal

abbrev pub invariant-loop-layer : goal.invariant-loop-layer
invariant-loop-layer l = layers_of l.layers.items ≡ layers_of l.initial.layers.items ++ layers_of l.yielded
