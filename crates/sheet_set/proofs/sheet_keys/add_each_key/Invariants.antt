use Rattle.std.proofs.Common.{◌≡◌, ◌++◌, map, take}
use Rattle.selector_model.specs.Key.{key_of}
use Rattle.selector_types.specs.SimpleView.{key_seen}
use Rattle.selector_types.specs.View.{selector_of}
use Rattle.sheet_set.proofs.sheet_keys.add_each_key.Given as goal

abbrev pub invariant-loop-selector : goal.invariant-loop-selector
invariant-loop-selector l = map key_seen l.keys.items ≡ map key_seen l.initial.keys.items ++ map (λ selector. key_of (selector_of selector)) (take l.selector-index l.selectors)
