use Rattle.std.proofs.Common.{refl}
use Rattle.style_value.proofs.ColumnTests.{initial_are, seen_initial}
use Rattle.style_value.proofs.value_columns.ValueColumns.initial.Goals as goal

pub invariant_of-result : goal.invariant_of-result
invariant_of-result c = initial_are _ _ refl c.initial_amounts.ensures

pub returns : goal.returns
returns c = seen_initial _ _ refl c.initial_amounts.ensures
