use Rattle.std.proofs.Common.{arith}
use Rattle.dom_tree.proofs.ChildLemmas.{parent_below, child_step, root_step, all_listed}
use Rattle.dom_tree.proofs.child_lists.link_nodes.Goals as goal
use Rattle.dom_tree.proofs.child_lists.link_nodes.Goals.{in-Some+in_ok-append_child, in_default}

pub append_child-requires : goal.append_child-requires
append_child-requires c =
    let l = parent_below c.len-index-end.ensures.shape (omega (arith, c.len-index-end.ensures.count)) c.in-Some.ensures in
    omega (arith, l, c.loop-index.invariant.count)

pub loop-index-preserved : goal.loop-index-preserved
loop-index-preserved c =
    let told = c.len-index-end.ensures.count in
    let longer = c.in_ok-push.ensures.items in
    elim c.match-parent.branch [
      | in-Some+in_ok-append_child w ↦
          child_step c.len-index-end.ensures.shape (omega (arith, told)) c.loop-index.invariant c.new.ensures _ _ w.in-Some.ensures w.in_ok-append_child.ensures (cc (longer, w.lists-is))
      | in_default w ↦ root_step c.len-index-end.ensures.shape (omega (arith, told)) c.loop-index.invariant c.new.ensures w.in_default.ensures (cc (longer, w.lists-is))
    ]

pub returns : goal.returns
returns c = all_listed c.loop-index.invariant (omega (arith, c.len-index-end.ensures.count))
