use Rattle.std.proofs.Common.{arith}
use Rattle.property_table.proofs.RowLemmas.{label_at, length-labelled, length-table}
use Rattle.property_table.proofs.property.label.Goals as goal

pub bounds-rows-row : goal.bounds-rows-row
bounds-rows-row c = omega (arith, length-labelled _ c.rows.ensures.labels, length-table)

pub returns : goal.returns
returns c = label_at _ _ _ _ c.rows.ensures.labels c.row.ensures.row (omega (arith, length-table))
