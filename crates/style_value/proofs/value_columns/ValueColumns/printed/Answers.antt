use Rattle.std.proofs.Common.{◌<◌, length, ◌∙◌, arith, sym}
use Rattle.value_model.specs.Table.{table}
use Rattle.property_table.proofs.RowLemmas.{length-rows, length-table, property_at}
use Rattle.style_value.proofs.ColumnLemmas.{length_seen}
use Rattle.style_value.proofs.TextLemmas.{found_all, found_first, found_not, found_one}
use Rattle.style_value.proofs.value_columns.ValueColumns.printed.Goals as goal
use Rattle.style_value.proofs.value_columns.ValueColumns.printed.Goals.{then-not-is_standing, else-not-is_standing}

pub bounds-rows-row : goal.bounds-rows-row
bounds-rows-row c = omega (arith, length-rows _ c.all-rows.ensures.rows, length-table)

pub loop-row-init : goal.loop-row-init
loop-row-init c = found_first c.args.self.now c.args.list.now

pub loop-row-preserved : goal.loop-row-preserved
loop-row-preserved c =
    let rows = c.all-rows.ensures in
    let within : c.loop-row.row < length table = omega (arith, c.loop-row-test.true, length-table) in
    let long = length_seen _ _ c.self.invariant _ c.self.view_is in
    elim c.if-not-is_standing.branch [
      | then-not-is_standing w ↦
          found_one c.args.self.now c.loop-row.list _ _ _ _ _ _ within long (c.if-not-is_standing.array_long ∙ sym length-table) c.is_standing.ensures w.if-not-is_standing.true (property_at _ _ _ rows.order (omega (arith, c.loop-row-test.true, length-rows _ rows.rows, length-table))) w.list-is w.count-is c.loop-row.invariant
      | else-not-is_standing w ↦
          found_not c.args.self.now c.loop-row.list _ _ _ _ _ within long c.is_standing.ensures w.if-not-is_standing.false w.list-is w.count-is c.loop-row.invariant
    ]

pub returns : goal.returns
returns c =
    record {
      within = omega (arith, c.loop-row.invariant.within, c.loop-row.auto.row-end);
      list = found_all _ _ _ c.loop-row.row (omega (arith, c.loop-row-test.false, length-table)) c.loop-row.invariant;
      all = length_seen _ _ c.self.invariant _ c.self.view_is;
    }
