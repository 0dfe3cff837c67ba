use Rattle.std.specs.FinMap as finmap
use Rattle.custom_properties.specs.Graph.{graph}
use Rattle.custom_properties.proofs.AddedLemmas.{entry_added}
use Rattle.custom_properties.proofs.graph.graph.Goals as goal

pub loop-from-preserved : goal.loop-from-preserved
loop-from-preserved c =
    entry_added (finmap.entries c.args.declared.now) c.loop-from.from c.entries-entries.result.now c.index-entries-from.result c.loop-from.edges.items c.add_references.new.edges.items (graph c.args.declared.now) c.entries-entries.ensures c.loop-from-test.true c.index-entries-from.is c.in_ok-add_references.ensures c.loop-from.invariant
