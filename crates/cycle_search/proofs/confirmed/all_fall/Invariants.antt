use Rattle.std.proofs.Common.{◌≡◌, drop}
use Rattle.std.specs.List.{list_all}
use Rattle.cycle_search.specs.Confirmed.{falls}
use Rattle.cycle_search.proofs.confirmed.all_fall.Given as goal

abbrev pub invariant-loop-edge : goal.invariant-loop-edge
invariant-loop-edge l = list_all (falls l.marks) (drop l.edge-index l.edges) ≡ list_all (falls l.marks) l.edges
