use Rattle.std.proofs.Common.{◌<◌, length, arith}
use Rattle.ancestor_model.specs.Counts.{lowered}
use Rattle.ancestor_filter.proofs.NameLemmas.{each_next}
use Rattle.ancestor_filter.proofs.filter.Filter.lower_each.Goals as goal

pub loop-index-preserved : goal.loop-index-preserved
loop-index-preserved c =
    let k = c.loop-index.index in
    let within : k < length c.args.names.now = omega (arith, c.loop-index-test.true, c.len-index-end.ensures) in
    each_next lowered c.args.names.now k c.key.result c.loop-index.self c.lower.new.self _ within c.key.ensures c.lower.ensures c.loop-index.invariant
