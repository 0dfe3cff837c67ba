use Rattle.std.proofs.Common.{◌||◌, ◌∙◌, arith, false, refl, sym}
use Rattle.scene_model.specs.Numbers.{is_in}
use Rattle.edit_model.specs.TouchedBy.{is_listed}
use Rattle.dom_edits.specs.declared.touch.Touch.{Touch}
use Rattle.dom_edits.specs.TouchView.{touch_seen}
use Rattle.dom_edits.proofs.TouchLemmas.{all_touches}
use Rattle.invalidation_map.specs.EditMembers.{marked_in}
use Rattle.invalidation_map.specs.Rows.{marks_by_touch}
use Rattle.invalidation_map.specs.RowView.{rows_in}
use Rattle.invalidation_map.proofs.SetLemmas.{or_no}
use Rattle.invalidation_map.proofs.StepLemmas.{below_all}
use Rattle.invalidation_map.proofs.GrowthLemmas.{grown_same, listed_elements}
use Rattle.invalidation_map.proofs.KeyLemmas.{by_all_touches, code_touches, grown_lists, grown_next, part_listed}
use Rattle.invalidation_map.proofs.MarkLemmas.{marked}
use Rattle.invalidation_map.proofs.invalidator.Invalidator.mark.Goals as goal

pub add_marked-requires : goal.add_marked-requires
add_marked-requires c =
    let self = c.args.self.now in
    below_all _ _ _ c.requires (listed_elements self.doc.now.elements self.touched.now _ _ c.at.ensures.elements self.at_elements)

pub loop-touch-init : goal.loop-touch-init
loop-touch-init c =
    let style = is_listed c.args.self.now.touched.now (touch_seen c.args.self.now.map.now.style) in
    record {
      grown = grown_same (λ x. is_in x c.at.result.now) (λ x. style x || false) _ _ (λ x. c.at.ensures.elements x ∙ or_no (style x)) c.add_marked.ensures.grown;
      others = c.add_marked.ensures.others;
    }

pub mark_by_touch-requires-clause-elements : goal.mark_by_touch-requires-clause-elements
mark_by_touch-requires-clause-elements c =
    part_listed c.parts.result.0.now c.parts.result.1.now c.args.self.now.touched.now c.loop-touch.touch-index c.touch-item.result
    (c.parts.ensures.parts (omega (arith, c.loop-touch-test.true))) c.loop-touch-test.true c.touch-item.is

pub loop-touch-preserved : goal.loop-touch-preserved
loop-touch-preserved c =
    let self = c.args.self.now in
    let style = is_listed self.touched.now (touch_seen self.map.now.style) in
    let by = λ (touch : Touch). marks_by_touch self.doc.now.elements self.touched.now (rows_in self.map.now) (touch_seen touch) in
    record {
      grown =
          grown_next style by c.parts.result.0.now c.loop-touch.touch-index c.touch-item.result (by c.touch-item.result) (marked_in c.args.sets.now)
          (marked_in c.loop-touch.sets) (marked_in c.mark_by_touch.new.sets) c.loop-touch-test.true c.touch-item.is (λ x. refl) c.loop-touch.invariant.grown c.mark_by_touch.ensures.grown;
      others = c.mark_by_touch.ensures.others ∙ c.loop-touch.invariant.others;
    }

pub returns-then-count-ne0 : goal.returns-then-count-ne0
returns-then-count-ne0 c =
    let self = c.args.self.now in
    let doc = self.doc.now.elements in
    let pairs = self.touched.now in
    let rows = rows_in self.map.now in
    let style = is_listed pairs (touch_seen self.map.now.style) in
    record {
      marked = λ before selectors tags listed are.
          marked doc pairs self.at_elements before tags listed selectors rows (touch_seen self.map.now.style) (marked_in c.args.sets.now) (marked_in c.loop-touch.sets) self.map.now.styled are
          (by_all_touches doc pairs style c.parts.result.0.now c.loop-touch.touch-index rows (marked_in c.args.sets.now) (marked_in c.loop-touch.sets)
          (all_touches c.parts.result.0.now c.parts.result.0.now c.parts.result.1.now pairs (sym (c.parts.ensures.parts (omega (arith, c.if-count-ne0.true)))) refl)
          c.loop-touch-test.false c.loop-touch.invariant.grown);
      others = c.loop-touch.invariant.others;
    }

pub returns : goal.returns
returns c =
    let self = c.args.self.now in
    let doc = self.doc.now.elements in
    let pairs = self.touched.now in
    let rows = rows_in self.map.now in
    let style = is_listed pairs (touch_seen self.map.now.style) in
    let none = c.if-count-ne0.false in
    let old = marked_in c.args.sets.now in
    let new = marked_in c.mark_by_lists.new.sets in
    record {
      marked = λ before selectors tags listed are.
          marked doc pairs self.at_elements before tags listed selectors rows (touch_seen self.map.now.style) old new self.map.now.styled are
          (by_all_touches doc pairs style code_touches 3 rows old new (c.parts.ensures.lists none) (omega arith)
          (grown_lists style (λ touch x. marks_by_touch doc pairs rows (touch_seen touch) x) (λ touch x. marks_by_touch doc pairs rows touch x) c.parts.result.0.now c.loop-touch.touch-index
          old (marked_in c.loop-touch.sets) new (λ touch x. refl) none c.loop-touch.invariant.grown c.mark_by_lists.ensures.grown));
      others = c.mark_by_lists.ensures.others ∙ c.loop-touch.invariant.others;
    }
