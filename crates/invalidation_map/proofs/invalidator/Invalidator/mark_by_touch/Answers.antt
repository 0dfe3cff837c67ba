use Rattle.std.proofs.Common.{ℕ, ◌≡◌, ◌+◌, ◌<◌, false, true, length, take, refl, sym, ap, subst, ◌∙◌}
use Rattle.std.specs.List.{list_any}
use Rattle.dom_edits.specs.TouchView.{touch_seen}
use Rattle.edit_model.specs.TouchedBy.{same_touch}
use Rattle.invalidation_map.specs.declared.shared.DependencyRow.{DependencyRow}
use Rattle.invalidation_map.specs.EditMembers.{EditMembers, but_marked, marked_in}
use Rattle.invalidation_map.specs.Marks.{IsGrown}
use Rattle.invalidation_map.specs.Rows.{marks_by_row}
use Rattle.invalidation_map.specs.SharedRows.{row_seen}
use Rattle.invalidation_map.proofs.KeyLemmas.{begun, by_touch_all, grown_next, grown_passed, hit_same, hits, in_rows}
use Rattle.invalidation_map.proofs.invalidator.Invalidator.mark_by_touch.Goals as goal
use Rattle.invalidation_map.proofs.invalidator.Invalidator.mark_by_touch.Goals.{then-is_of, else-is_of}

pub loop-place-init : goal.loop-place-init
loop-place-init c =
    let self = c.args.self.now in
    let map = self.map.now in
    record {
      grown = begun self.doc.now.elements self.touched.now map.shared (touch_seen c.args.touch.now) c.key-key.result c.key-key.ensures map.rows.items
          map.index.keys.items map.keyed c.near-first.result.0 c.near-first.result.1 c.near-first.ensures (marked_in c.args.sets.now);
      others = refl;
    }

pub loop-place-preserved : goal.loop-place-preserved
loop-place-preserved c =
    let doc = c.args.self.now.doc.now.elements in
    let pairs = c.args.self.now.touched.now in
    let map = c.args.self.now.map.now in
    let shared = map.shared in
    let rows = map.rows.items in
    let i = c.loop-place.place in
    let k = touch_seen c.args.touch.now in
    let old = marked_in c.args.sets.now in
    let there : i < length rows = in_rows doc pairs shared k c.key-key.result c.key-key.ensures rows map.index.keys.items
    map.keyed c.near-first.result.0 c.near-first.result.1 c.near-first.ensures i c.loop-place-test.true in
    elim c.if-is_of.branch [
      | then-is_of w ↦ let row = w.index.result.now in
          let same : same_touch (touch_seen row.touch) k ≡ true = ap (λ (r : DependencyRow). same_touch (touch_seen r.touch) k) w.index.ensures ∙ (sym (c.is_of.ensures row) ∙ w.if-is_of.true) in
          record {
            grown = subst (λ (m : EditMembers). IsGrown (λ x. list_any (λ row. hits doc pairs shared k row x) (take (i + 1) rows)) old (marked_in m)) (sym w.sets-is)
                (grown_next (λ (y : ℕ). false) (hits doc pairs shared k) rows i row (marks_by_row doc pairs (row_seen shared row)) old (marked_in c.loop-place.sets)
                (marked_in w.mark_row.new.sets) there w.index.ensures (hit_same doc pairs shared k row same) c.loop-place.invariant.grown w.mark_row.ensures.grown);
            others = ap but_marked w.sets-is ∙ (w.mark_row.ensures.others ∙ c.loop-place.invariant.others);
          }
      | else-is_of w ↦ record {
        grown = subst (λ (m : EditMembers). IsGrown (λ x. list_any (λ row. hits doc pairs shared k row x) (take (i + 1) rows)) old (marked_in m)) (sym w.sets-is)
            (grown_passed doc pairs shared k rows i old (marked_in c.loop-place.sets) there (λ d. sym (c.is_of.ensures d) ∙ w.if-is_of.false) c.loop-place.invariant.grown);
        others = ap but_marked w.sets-is ∙ c.loop-place.invariant.others;
      }
    ]

pub returns : goal.returns
returns c =
    let self = c.args.self.now in
    let map = self.map.now in
    record {
      grown = by_touch_all self.doc.now.elements self.touched.now map.shared (touch_seen c.args.touch.now) c.key-key.result c.key-key.ensures map.rows.items
          map.index.keys.items map.keyed c.near-first.result.0 c.near-first.result.1 c.near-first.ensures c.loop-place.place (marked_in c.args.sets.now)
          (marked_in c.loop-place.sets) c.loop-place-test.false c.loop-place.invariant.grown;
      others = c.loop-place.invariant.others;
    }
