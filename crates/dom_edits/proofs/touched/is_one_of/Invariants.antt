use Rattle.std.proofs.Common.{◌≡◌, map, drop}
use Rattle.std.specs.List.{list_any}
use Rattle.edit_model.specs.TouchedBy.{same_touch}
use Rattle.dom_edits.specs.TouchView.{touch_seen}
use Rattle.dom_edits.proofs.touched.is_one_of.Given as goal

abbrev pub invariant-loop-other : goal.invariant-loop-other
invariant-loop-other l =
    list_any (same_touch (touch_seen l.touch)) (map touch_seen (drop l.other-index l.touches)) ≡ list_any (same_touch (touch_seen l.touch)) (map touch_seen l.touches)
