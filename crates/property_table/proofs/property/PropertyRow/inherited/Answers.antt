use Rattle.std.proofs.Common.{refl}
use Rattle.value_model.specs.Table.{table}
use Rattle.property_table.proofs.property.PropertyRow.inherited.Goals as goal

pub returns : goal.returns
unfolding table
returns c = refl
