use Rattle.std.proofs.Common.{◌≡◌, ◌+◌, map}
use Rattle.std.specs.FinMap as finmap
use Rattle.custom_model.specs.Computed.{computed_within}
use Rattle.custom_properties.proofs.plain.values_plain.Given as goal

abbrev pub invariant-loop-round : goal.invariant-loop-round
invariant-loop-round l =
    l.values.items ≡ map (computed_within (l._round + 1) l.declared l.inherited) (finmap.keys l.declared)
