use Rattle.style_value.proofs.TextLemmas.{IsFound}
use Rattle.style_value.proofs.value_columns.ValueColumns.printed.Given as goal

abbrev pub invariant-loop-row : goal.invariant-loop-row
invariant-loop-row l = IsFound l.self l.list l.count l.row
