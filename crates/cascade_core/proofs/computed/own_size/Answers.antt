use Rattle.std.proofs.Common.{◌≡◌, refl}
use Rattle.value_model.specs.Table.{table, font_size_row}
use Rattle.property_table.specs.View.{row_of}
use Rattle.property_table.specs.declared.property.PropId.TheVariants.{FontSize}
use Rattle.cascade_core.proofs.computed.own_size.Goals as goal

font_row : row_of FontSize ≡ font_size_row
unfolding table
font_row = refl

pub returns : goal.returns
returns c = rw (c.font_size.ensures, c.value_at.ensures, c.of.ensures.row, font_row)
