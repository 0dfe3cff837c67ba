use Rattle.std.proofs.Common.{rules}
use Rattle.dom_tree.proofs.EditLemmas.{same_none, same_more, same_all}
use Rattle.dom_tree.proofs.runs.packed.Goals as goal

pub loop-row-init : goal.loop-row-init
loop-row-init c = same_none c.in_ok-placed.ensures.items

pub loop-row-preserved : goal.loop-row-preserved
loop-row-preserved c =
    same_more c.args.rows.now c.loop-row-test.true c.row-item.is c.loop-row.invariant c.of-part.ensures c.in_ok-extend_from_slice.ensures.items (search rules) c.in_ok-push.ensures.items

pub returns : goal.returns
returns c = same_all c.loop-row.row-index c.loop-row-test.false c.loop-row.invariant
