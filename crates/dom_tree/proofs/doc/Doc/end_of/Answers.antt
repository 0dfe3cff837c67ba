use Rattle.std.proofs.Common.{ap, sym, ◌∙◌, ◌+◌, length, refl, arith, ltb-true}
use Rattle.std.proofs.lemmas.List.{length-map}
use Rattle.std.proofs.lemmas.Option.{slice_get_read}
use Rattle.scene_model.specs.Element.{Element}
use Rattle.change_model.proofs.Ends.{end-root}
use Rattle.dom_tree.proofs.EndLemmas.{end_next, end_up, past_last, position_found}
use Rattle.dom_tree.proofs.doc.Doc.end_of.Goals as goal

pub returns-in-Some-get : goal.returns-in-Some-get
returns-in-Some-get c =
    let read = c.in-Some-get.ensures.lookup in
    let above = sym c.parent.ensures.parent ∙ c.in-Some.is in
    let many = length c.children.result.now in
    let next = slice_get_read c.children.result.now many (c.place.result + 1) c.in-Some-get.next.now refl (ltb-true (c.place.result + 1) many (sym read.0)) read.1 in
    position_found c.args.self.now.elements c.in-Some-get.next.now c.in_tree_order-order.ensures.order c.position_in.ensures
    ∙ (end_next c.in_tree_order-order.ensures.sound c.loop-parent.top above c.place.ensures.place c.children.ensures.children _ next ∙ c.loop-parent.invariant.same)

pub loop-parent-preserved : goal.loop-parent-preserved
loop-parent-preserved c =
    let above = sym c.parent.ensures.parent ∙ c.in-Some.is in
    let past = past_last (c.place.result + 1) (length c.children.result.now) (sym c.in_default-get.ensures.lookup.0) in
    record {
      there = (c.parent.ensures.valid.parents c.loop-parent.top c.in-Some.parent above).0;
      same = sym (end_up c.in_tree_order-order.ensures.sound c.loop-parent.top above c.place.ensures.place c.children.ensures.children past) ∙ c.loop-parent.invariant.same;
    }

pub returns : goal.returns
returns c =
    let sound = c.in_tree_order-order.ensures.sound in
    let last = end-root c.args.self.now.elements sound.valid sound.runs c.loop-parent.top c.loop-parent.invariant.there (sym c.parent.ensures.parent ∙ c.in_default.is) in
    omega (arith, ap length c.in_tree_order-order.ensures.order, length-map c.args.self.now.elements (λ (e : Element). e.number), last, c.loop-parent.invariant.same)
