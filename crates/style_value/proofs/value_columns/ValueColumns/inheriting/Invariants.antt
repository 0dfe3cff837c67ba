use Rattle.std.proofs.Common.{◌≡◌, drop}
use Rattle.value_model.specs.Table.{table}
use Rattle.value_model.specs.Style.{inherited_values}
use Rattle.property_table.specs.View.{inherited_properties}
use Rattle.style_value.proofs.InheritedLemmas.{with_values_in}
use Rattle.style_value.proofs.value_columns.ValueColumns.inheriting.Given as goal

abbrev pub invariant-loop-id : goal.invariant-loop-id
invariant-loop-id l =
    with_values_in l.parent (drop l.id-index inherited_properties) l.columns ≡ inherited_values table l.parent
