use Rattle.std.proofs.Common.{◌≡◌, map, take}
use Rattle.std.specs.FinMap as finmap
use Rattle.custom_model.specs.Computed.{computed_over}
use Rattle.custom_properties.specs.KnownView.{known_in}
use Rattle.custom_properties.proofs.plain.next_values.Given as goal

abbrev pub invariant-loop-place : goal.invariant-loop-place
invariant-loop-place l =
    l.next.items
    ≡ map (computed_over l.declared l.inherited (known_in l.declared l.values l.others))
    (take l.place (finmap.keys l.declared))
