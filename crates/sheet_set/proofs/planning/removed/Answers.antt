use Rattle.std.proofs.Common.{arith}
use Rattle.sheet_set.proofs.StepsTo.{go-to}
use Rattle.sheet_set.proofs.planning.removed.Goals as goal

pub returns : goal.returns
returns c = λ n last alone.
    let it = c.index-sheets-place.result in
    let room = c.in_ok-room.room in
    go-to c.args.sheets.now c.args.place it c.requires c.index-sheets-place.is n last alone room (omega (arith, c.in_ok-room.ensures.rules, c.count.ensures, it.counted))
    (omega (arith, c.in_ok-room.ensures.selectors, c.count.ensures, it.counted))
