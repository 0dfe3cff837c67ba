use Rattle.std.proofs.Common.{take}
use Rattle.std.specs.List.{list_any}
use Rattle.dom_edits.specs.TouchView.{touch_seen}
use Rattle.invalidation_map.specs.Marks.{AddsMarked}
use Rattle.invalidation_map.proofs.KeyLemmas.{hits}
use Rattle.invalidation_map.proofs.invalidator.Invalidator.mark_by_touch.Given as goal

abbrev pub invariant-loop-place : goal.invariant-loop-place
invariant-loop-place l =
    AddsMarked (λ x. list_any (λ row. hits l.self.doc.now.elements l.self.touched.now l.self.map.now.shared (touch_seen l.touch) row x) (take l.place l.self.map.now.rows.items))
    l.initial.sets l.sets
