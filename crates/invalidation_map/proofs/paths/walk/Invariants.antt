use Rattle.std.proofs.Common.{ℕ, drop}
use Rattle.dependency_map.specs.DepView.{path_of}
use Rattle.invalidation_map.specs.EditMembers.{BothHaveRoom}
use Rattle.invalidation_map.specs.Steps.{AreElements}
use Rattle.invalidation_map.proofs.PathLemmas.{IsAhead}
use Rattle.invalidation_map.proofs.paths.walk.Given as goal

abbrev pub invariant-loop-step : goal.invariant-loop-step
invariant-loop-step l = record {
  ahead : IsAhead l.doc.elements (path_of l.path) (path_of (drop l.step-index l.path)) l.initial.from.items l.from.items;
  elements : AreElements l.doc.elements l.from.items;
  room : (room : ℕ) → BothHaveRoom room l.initial.from l.initial.next → BothHaveRoom room l.from l.next;
}
