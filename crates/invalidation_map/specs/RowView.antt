-- What the rows of the code stand for.
use Rattle.std.specs.Prelude.{List}
use Rattle.invalidation_map.specs.declared.gather.GatheredRows.{GatheredRows}
use Rattle.invalidation_map.specs.declared.rows.InvalidationMap.{InvalidationMap}
use Rattle.invalidation_map.specs.Rows.{Row}
use Rattle.invalidation_map.specs.SharedRows.{rows_seen}

abbrev pub rows_in : InvalidationMap → List Row
rows_in map = rows_seen map.shared map.rows.items

abbrev pub rows_gathered : GatheredRows → List Row
rows_gathered gathered = rows_seen gathered.shared gathered.rows.items
