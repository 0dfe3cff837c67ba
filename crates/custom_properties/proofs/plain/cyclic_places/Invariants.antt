use Rattle.std.proofs.Common.{◌≡◌, map, take}
use Rattle.std.specs.FinMap as finmap
use Rattle.custom_model.specs.Cycles.{is_cyclic}
use Rattle.custom_properties.proofs.plain.cyclic_places.Given as goal

abbrev pub invariant-loop-place : goal.invariant-loop-place
invariant-loop-place l = l.flags.items ≡ map (is_cyclic l.declared) (take l.place (finmap.keys l.declared))
