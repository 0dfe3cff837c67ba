use Rattle.std.proofs.Common.{◌≡◌, map, take}
use Rattle.std.specs.FinMap as finmap
use Rattle.custom_model.specs.Computed.{computed as computed_value}
use Rattle.custom_properties.proofs.ordered.values_apart.Given as goal

abbrev pub invariant-loop-entry : goal.invariant-loop-entry
invariant-loop-entry l =
    l.values.items ≡ map (computed_value l.declared l.inherited) (take l.entry-index (finmap.keys l.declared))
