use Rattle.std.proofs.Common.{◌≡◌, drop}
use Rattle.std.specs.List.{list_any}
use Rattle.selector_types.specs.View.{selectors_of}
use Rattle.element_styler.specs.Prepared.{asks}
use Rattle.element_styler.proofs.prepared.one_asks.Given as goal

abbrev pub invariant-loop-selector : goal.invariant-loop-selector
invariant-loop-selector l =
    list_any asks (selectors_of (drop l.selector-index l.list)) ≡ list_any asks (selectors_of l.list)
