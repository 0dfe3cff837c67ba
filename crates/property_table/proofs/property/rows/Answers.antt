use Rattle.std.proofs.Common.{refl}
use Rattle.std.specs.Str.{chars}
use Rattle.value_model.specs.Table.{table}
use Rattle.property_table.proofs.property.rows.Goals as goal

pub returns-clause-rows : goal.returns-clause-rows
unfolding chars table
returns-clause-rows c = refl

pub returns-clause-order : goal.returns-clause-order
unfolding table
returns-clause-order c = refl

pub returns-clause-labels : goal.returns-clause-labels
unfolding chars table
returns-clause-labels c = refl
