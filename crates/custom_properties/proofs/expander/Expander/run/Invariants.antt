use Rattle.std.proofs.Common.{◌≡◌}
use Rattle.custom_properties.specs.Expanding as model
use Rattle.custom_properties.specs.ExpanderView.{state_of}
use Rattle.custom_properties.proofs.expander.Expander.run.Given as goal

abbrev pub invariant-loop-token : goal.invariant-loop-token
invariant-loop-token g l =
    model.put_from (g.V.Values.lookup l.values) (state_of l.self) l.reader.steps
    ≡ model.put_from (g.V.Values.lookup l.values) (state_of l.initial.self) l.initial.reader.steps

abbrev pub decreases-loop-token : goal.decreases-loop-token
decreases-loop-token g l = l.reader.tokens
