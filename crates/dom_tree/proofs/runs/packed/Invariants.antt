use Rattle.std.proofs.Common.{take}
use Rattle.dom_tree.specs.Kept.{AreSameNodes}
use Rattle.dom_tree.proofs.runs.packed.Given as goal

abbrev pub invariant-loop-row : goal.invariant-loop-row
invariant-loop-row l = AreSameNodes l.attrs (take l.row-index l.rows) l.list.items l.placed.items
