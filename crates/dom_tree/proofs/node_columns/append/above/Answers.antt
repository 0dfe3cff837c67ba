use Rattle.std.proofs.Common.{arith}
use Rattle.dom_tree.proofs.AppendedColumns.{above_is, parent_early}
use Rattle.dom_tree.proofs.node_columns.append.above.Goals as goal

pub overflow_add-result : goal.overflow_add-result
overflow_add-result c =
    let early = parent_early c.requires.shape c.requires.index c.in-Some.ensures in
    omega (arith, early, c.requires.few)

pub returns-in-Some : goal.returns-in-Some
returns-in-Some c = above_is c.args.list.now.nodes c.args.index c.args.last c.args.parent _ c.requires.index c.in-Some.ensures

pub returns-in-None : goal.returns-in-None
returns-in-None c = above_is c.args.list.now.nodes c.args.index c.args.last c.args.parent _ c.requires.index c.in-None.ensures
