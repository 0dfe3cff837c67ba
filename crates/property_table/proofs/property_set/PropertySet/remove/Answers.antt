use Rattle.std.proofs.Common.{arith}
use Rattle.property_table.proofs.RowLemmas.{length-table}
use Rattle.property_table.proofs.SetLemmas.{are_cleared, removes_row}
use Rattle.property_table.proofs.property_set.PropertySet.remove.Goals as goal

pub invariant_of-self : goal.invariant_of-self
invariant_of-self c = are_cleared _ _ (omega (arith, length-table, c.row.ensures.within)) c.self.invariant

pub returns : goal.returns
returns c = removes_row _ _ _ _ c.self.view_is c.row.ensures.row (omega (arith, length-table, c.row.ensures.within))
