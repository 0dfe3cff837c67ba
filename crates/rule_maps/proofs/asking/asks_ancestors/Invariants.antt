use Rattle.std.proofs.Common.{◌≡◌}
use Rattle.ancestor_model.specs.Above.{ancestor_names}
use Rattle.selector_types.specs.ComplexView.{complex_of}
use Rattle.selector_types.specs.View.{selector_of}
use Rattle.rule_maps.specs.Asking.{has_some}
use Rattle.rule_maps.proofs.asking.asks_ancestors.Given as goal

-- what is left of the selector decides
abbrev pub invariant-loop-at : goal.invariant-loop-at
invariant-loop-at l = has_some (ancestor_names (complex_of l.at)) ≡ has_some (ancestor_names (selector_of l.selector))
