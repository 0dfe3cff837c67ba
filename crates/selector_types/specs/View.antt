-- The view of a selector, and of the selectors of rules.
use Rattle.std.specs.Prelude.{List, Vec, map}
use Rattle.std.specs.declared.alloc.Global.{Global}
use Rattle.selector_model.specs.Selector as model
use Rattle.selector_types.specs.declared.selector.Selector.{Selector}
use Rattle.selector_types.specs.ComplexView.{complex_of}

abbrev pub selector_of : Selector → model.Selector
selector_of selector = complex_of selector.complex

abbrev pub selectors_of : List Selector → List model.Selector
selectors_of selectors = map selector_of selectors

-- of each rule a list
abbrev pub rules_seen : List (Vec Selector Global) → List (List model.Selector)
rules_seen rules = map (λ selectors. selectors_of selectors.items) rules
