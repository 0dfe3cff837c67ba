use Rattle.std.proofs.Common.{◌≡◌}
use Rattle.std.specs.Str.{chars}
use Rattle.value_model.specs.Table.{property_named}
use Rattle.property_table.proofs.NameLemmas.{named_from}
use Rattle.property_table.proofs.property.by_name.Given as goal

abbrev pub invariant-loop-row : goal.invariant-loop-row
invariant-loop-row l = named_from (chars l.name) l.row-index ≡ property_named (chars l.name)
