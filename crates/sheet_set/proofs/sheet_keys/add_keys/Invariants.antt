use Rattle.std.proofs.Common.{◌≡◌, ◌++◌, map, take}
use Rattle.selector_types.specs.SimpleView.{key_seen}
use Rattle.sheet_set.specs.StepOf.{keys_of}
use Rattle.sheet_set.proofs.sheet_keys.add_keys.Given as goal

abbrev pub invariant-loop-list : goal.invariant-loop-list
invariant-loop-list l = map key_seen l.keys.items ≡ map key_seen l.initial.keys.items ++ keys_of (take l.list-index l.selectors)
