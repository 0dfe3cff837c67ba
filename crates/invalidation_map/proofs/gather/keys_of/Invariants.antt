use Rattle.std.proofs.Common.{◌≡◌, map, take}
use Rattle.dom_edits.specs.TouchView.{touch_key, touch_seen}
use Rattle.invalidation_map.proofs.gather.keys_of.Given as goal

abbrev pub invariant-loop-row : goal.invariant-loop-row
invariant-loop-row l = l.keys.items ≡ map (λ row. touch_key (touch_seen row.touch)) (take l.row-index l.rows)
