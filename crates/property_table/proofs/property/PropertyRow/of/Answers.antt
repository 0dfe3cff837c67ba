use Rattle.std.proofs.Common.{◌<◌, length, get_or, ◌∙◌, sym, ap, arith}
use Rattle.std.proofs.lemmas.Option.{get_or_from_slice_get, slice_get-get_or}
use Rattle.value_model.specs.Table.{table, color_row}
use Rattle.property_table.specs.View.{property_of}
use Rattle.property_table.proofs.RowLemmas.{length-table, length-rows, row_at, property_at, property_of-same}
use Rattle.property_table.proofs.property.PropertyRow.of.Goals as goal

pub bounds-all-row : goal.bounds-all-row
bounds-all-row c = omega (arith, length-rows _ c.all.ensures.rows, length-table)

pub returns-clause-found : goal.returns-clause-found
returns-clause-found c =
    let within : property_of c.args.id < length table = omega (arith, length-table) in
    slice_get-get_or table (property_of c.args.id) color_row within

pub returns-clause-row : goal.returns-clause-row
returns-clause-row c =
    let within : c.row.result < length c.all.result.now = omega (arith, length-rows _ c.all.ensures.rows, length-table) in
    sym (get_or_from_slice_get table c.row.result _ color_row (row_at _ _ _ c.all.ensures.rows within))
    ∙ ap (λ i. get_or table i color_row) c.row.ensures.row

pub returns-clause-id : goal.returns-clause-id
returns-clause-id c =
    let within : c.row.result < length c.all.result.now = omega (arith, length-rows _ c.all.ensures.rows, length-table) in
    property_of-same _ _ (property_at _ _ _ c.all.ensures.order within ∙ c.row.ensures.row)
