use Rattle.std.proofs.Common.{◌≡◌, length}
use Rattle.css_rules.specs.Layers.{layer_named}
use Rattle.css_rules.specs.View.{context_of}
use Rattle.css_rules.proofs.layer_names.layer_named.Given as goal

abbrev pub invariant-loop-name : goal.invariant-loop-name
invariant-loop-name l = layer_named (context_of l.outer) l.left ≡ layer_named (context_of l.context) l.tokens

abbrev pub decreases-loop-name : goal.decreases-loop-name
decreases-loop-name l = length l.left
