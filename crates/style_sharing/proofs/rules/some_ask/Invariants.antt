use Rattle.std.proofs.Common.{◌≡◌, drop}
use Rattle.std.specs.List.{list_any}
use Rattle.selector_types.specs.View.{selectors_of}
use Rattle.sharing_model.specs.Siblings.{asks_for_siblings}
use Rattle.style_sharing.proofs.rules.some_ask.Given as goal

-- the selectors that are left decide
abbrev pub invariant-loop-selector : goal.invariant-loop-selector
invariant-loop-selector l =
    list_any asks_for_siblings (selectors_of (drop l.selector-index l.selectors)) ≡ list_any asks_for_siblings (selectors_of l.selectors)
