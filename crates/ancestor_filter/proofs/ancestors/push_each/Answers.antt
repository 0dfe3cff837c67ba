use Rattle.std.proofs.Common.{◌<◌, length, arith}
use Rattle.ancestor_filter.proofs.ReachLemmas.{added_all, added_next}
use Rattle.ancestor_filter.proofs.ancestors.push_each.Goals as goal

pub loop-index-preserved : goal.loop-index-preserved
loop-index-preserved c =
    let all = c.args.elements.now in
    let k = c.loop-index.index in
    let within : k < length all = grind arith in
    added_next c.args.doc.now.elements all c.args.filter.now c.loop-index.filter c.push.new.self k within c.loop-index.invariant c.push.ensures.stands

pub returns : goal.returns
returns c =
    added_all c.args.doc.now.elements c.args.elements.now c.args.filter.now c.loop-index.filter c.loop-index.index c.loop-index.invariant (grind arith)
