use Rattle.std.proofs.Common.{◌≡◌, ◌++◌, drop}
use Rattle.std.specs.FinMap as finmap
use Rattle.custom_properties.specs.Graph.{edges_of, graph}
use Rattle.custom_properties.proofs.graph.graph.Given as goal

abbrev pub invariant-loop-from : goal.invariant-loop-from
invariant-loop-from l =
    l.edges.items ++ edges_of (finmap.entries l.declared) l.from (drop l.from (finmap.entries l.declared)) ≡ graph l.declared
