use Rattle.custom_properties.proofs.ReachLemmas.{AreAfter}
use Rattle.custom_properties.proofs.plain.is_on_cycle.Given as goal

abbrev pub invariant-loop-step : goal.invariant-loop-step
invariant-loop-step l = AreAfter l.declared l.place l._step l.reach.items
