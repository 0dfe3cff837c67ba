use Rattle.std.proofs.Common.{◌||◌, take}
use Rattle.std.specs.List.{list_any}
use Rattle.edit_model.specs.TouchedBy.{is_listed}
use Rattle.dom_edits.specs.TouchView.{touch_seen}
use Rattle.invalidation_map.specs.Rows.{marks_by_touch}
use Rattle.invalidation_map.specs.RowView.{rows_in}
use Rattle.invalidation_map.specs.Marks.{AddsMarked}
use Rattle.invalidation_map.proofs.invalidator.Invalidator.mark.Given as goal

abbrev pub invariant-loop-touch : goal.invariant-loop-touch
invariant-loop-touch l =
    AddsMarked (λ x. is_listed l.self.touched.now (touch_seen l.self.map.now.style) x || list_any
    (λ touch. marks_by_touch l.self.doc.now.elements l.self.touched.now (rows_in l.self.map.now) (touch_seen touch) x) (take l.touch-index l.touches))
    l.fn.sets l.sets
