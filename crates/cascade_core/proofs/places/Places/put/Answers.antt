use Rattle.std.proofs.Common.{◌<◌, arith, length}
use Rattle.property_table.specs.View.{property_of}
use Rattle.value_model.specs.Table.{table}
use Rattle.property_table.proofs.RowLemmas.{length-table}
use Rattle.cascade_core.specs.Declarations.{in_order}
use Rattle.cascade_core.proofs.WonLemmas.{put_one}
use Rattle.cascade_core.proofs.places.Places.put.Goals as goal

pub returns : goal.returns
returns c = λ ds h.
    let q = property_of c.args.id in
    let within : q < length table = omega (arith, c.row-row.ensures.within, c.row-row.ensures.row, length-table) in
    rw (c.row-row.ensures.row, c.insert.ensures) (put_one (in_order c.args.declarations) c.args.self.now ds h q within c.args.d.now c.better.result (c.better.ensures ds h))
