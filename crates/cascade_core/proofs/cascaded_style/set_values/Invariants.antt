use Rattle.std.proofs.Common.{◌≡◌}
use Rattle.cascade_core.proofs.FilledLemmas.{IsPartly, sources}
use Rattle.cascade_core.proofs.TakenLemmas.{IsPartlyTold}
use Rattle.cascade_core.proofs.cascaded_style.set_values.Given as goal

abbrev pub invariant-loop-id : goal.invariant-loop-id
invariant-loop-id l =
    IsPartly (sources l.custom l.is_root l.parent l.fn.root_size l.winners) l.draft.values l.id-iterator
    × (l.draft.custom ≡ l.parent.custom)
    × (l.longhands.custom ≡ l.custom)
    × IsPartlyTold (sources l.custom l.is_root l.parent l.fn.root_size l.winners) l.takes l.id-iterator
