use Rattle.std.proofs.Common.{List, length}
use Rattle.serde_json.specs.Data.{Data}
use Rattle.json_reader.specs.Taken.{items_taken}
use Rattle.json_reader.proofs.Turns.{AreItemsFound}
use Rattle.json_reader.proofs.arrays.items.Given as goal

abbrev pub invariant-items : goal.invariant-items
invariant-items g l =
    (ds : List Data) × AreItemsFound l.depth (items_taken l.depth (length l.initial.reader) l.initial.reader) (length l.initial.reader) l.reader ds × g.K.KeepItems.keeps l.kept ds

abbrev pub decreases-items : goal.decreases-items
decreases-items g l = length l.reader
