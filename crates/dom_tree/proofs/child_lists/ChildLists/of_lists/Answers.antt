use Rattle.std.proofs.Common.{rules}
use Rattle.dom_tree.proofs.FlatLemmas.{flat_next, none_flat}
use Rattle.dom_tree.proofs.child_lists.ChildLists.of_lists.Goals as goal

pub loop-numbers-init : goal.loop-numbers-init
loop-numbers-init c = none_flat _ c.in_ok-spans.ensures.items

pub loop-numbers-preserved : goal.loop-numbers-preserved
loop-numbers-preserved c =
    flat_next c.loop-numbers.invariant c.loop-numbers-test.true c.numbers-item.is _ c.as_slice-list.ensures c.in_ok-extend_from_slice.ensures.items c.in_ok-push.ensures.items (search rules)
    (search rules)
