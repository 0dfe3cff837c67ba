use Rattle.scene_model.proofs.InOrder.{element_in_order}
use Rattle.invalidation_map.proofs.change_marks.bearers.Goals as goal

pub bears-requires : goal.bears-requires
bears-requires c =
    element_in_order c.args.doc.now.elements c.in_tree_order-order.result.now c.loop-x.x-index c.in_tree_order-order.ensures.order c.loop-x-test.true
