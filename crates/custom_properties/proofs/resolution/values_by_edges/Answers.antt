use Rattle.std.proofs.Common.{arith}
use Rattle.std.specs.FinMap as finmap
use Rattle.custom_properties.proofs.EntryLemmas.{length_of_entries}
use Rattle.custom_properties.proofs.resolution.values_by_edges.Goals as goal

pub values_in_order-requires-clause-marks : goal.values_in_order-requires-clause-marks
values_in_order-requires-clause-marks c =
    let many = length_of_entries c.args.declared.now c.entries-count.result.now c.entries-count.ensures in
    let lengths = finmap.len-entries c.args.declared.now in
    omega arith
