use Rattle.style_value.proofs.PartLemmas.{Leads}
use Rattle.style_value.proofs.value_columns.ValueColumns.same_inherited.Given as goal

abbrev pub invariant-loop-id : goal.invariant-loop-id
invariant-loop-id l = Leads l.self l.other l.id-index
