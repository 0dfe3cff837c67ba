use Rattle.std.proofs.Common.{arith}
use Rattle.property_table.proofs.RowLemmas.{length-table}
use Rattle.property_table.proofs.SetLemmas.{contains_row}
use Rattle.property_table.proofs.property_set.PropertySet.contains.Goals as goal

pub returns : goal.returns
returns c =
    contains_row _ _ _ _ c.self.view_is c.row.ensures.row (omega (arith, length-table, c.row.ensures.within))
