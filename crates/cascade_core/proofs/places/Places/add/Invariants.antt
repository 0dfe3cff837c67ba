use Rattle.std.proofs.Common.{◌++◌, take, map, List}
use Rattle.cascade_model.specs.Key.{Matched}
use Rattle.property_table.specs.View.{property_of}
use Rattle.cascade_core.specs.Declarations.{in_order}
use Rattle.cascade_core.specs.View.{entry_of}
use Rattle.cascade_core.specs.Won.{AreWinners}
use Rattle.cascade_core.proofs.places.Places.add.Given as goal

abbrev pub invariant-loop-id : goal.invariant-loop-id
invariant-loop-id l =
    (ds : List Matched) → AreWinners (in_order l.declarations) l.fn.self ds → AreWinners (in_order l.declarations) l.self (ds ++ map (λ id. entry_of (property_of id) l.d) (take l.id-index l.ids))
