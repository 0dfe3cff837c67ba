-- What rows stand for, with the paths and keys that they share.
use Rattle.std.specs.Prelude.{◌≡◌, ◌<◌, true, List, [], Some, get_or, length, map}
use Rattle.std.specs.List.{All}
use Rattle.selector_model.specs.Key.{any_key}
use Rattle.edit_model.specs.MarkedAfter.{touch_of_key}
use Rattle.dom_edits.specs.TouchView.{touch_seen}
use Rattle.invalidation_map.specs.declared.shared.DependencyRow.{DependencyRow}
use Rattle.invalidation_map.specs.declared.shared.Shared.{Shared}
use Rattle.invalidation_map.specs.Rows.{Row}
use Rattle.invalidation_map.specs.Shared.{keys_in, paths_in}

-- a row, with the path and the key that it names
abbrev pub row_seen : Shared → DependencyRow → Row
row_seen shared row = record {
  touch = touch_seen row.touch;
  path = get_or (paths_in shared) row.path [];
  key = get_or (keys_in shared) row.key any_key;
}

-- a row that marks all elements of its touch: it has no path, and its touch is that of its key
pub record IsAlone (row : Row) : Type 0 where
  pub path : row.path ≡ []
  pub key : touch_of_key row.key ≡ Some row.touch

-- a row names a path and a key that are there
pub record IsWithin (shared : Shared) (row : DependencyRow) : Type 0 where
  pub path : row.path < length (paths_in shared)
  pub key : row.key < length (keys_in shared)
  pub alone : row.alone ≡ true → IsAlone (row_seen shared row)

abbrev pub AreWithin : Shared → List DependencyRow → Type 0
AreWithin shared rows = All (IsWithin shared) rows

abbrev pub rows_seen : Shared → List DependencyRow → List Row
rows_seen shared rows = map (row_seen shared) rows
