use Rattle.std.proofs.Common.{◌≡◌, ◌<◌, ℕ, List, length, get_or, map, ap, sym, ◌∙◌, arith, length-set}
use Rattle.std.proofs.lemmas.Option.{same_Some, slice_get_within}
use Rattle.std.specs.Arc.{arc_value}
use Rattle.cascade_model.specs.StyleOf.{style_of}
use Rattle.sheet_set.specs.View.{sources_seen}
use Rattle.plain_style.specs.Known.{style_at}
use Rattle.scene_model.proofs.InOrder.{element_in_order, parent_in_order}
use Rattle.plain_style.proofs.Walk.{styled_more}
use Rattle.plain_style.proofs.Places.{known_more}
use Rattle.plain_style.proofs.RootLemmas.{knows_root_more}
use Rattle.plain_style.proofs.all_styles.styles_in_order.Goals as goal

pub loop-number-init : goal.loop-number-init
loop-number-init c = record {
  room = λ k below.
      let element = element_in_order c.args.inputs.now.doc.now.elements c.in_tree_order-order.result.now k c.in_tree_order-order.ensures.order below in
      let numbered = c.last.ensures.numbered (get_or c.in_tree_order-order.result.now k 0) element in
      omega (arith, c.type_inv.order k, c.in_ok-known.ensures.len);
  styled = ap (map arc_value) c.in_ok-styles.ensures.items;
  known = λ q none. cc;
  serves = c.requires.serves;
  root = c.requires.root;
}

pub style_number-requires-clause-element : goal.style_number-requires-clause-element
style_number-requires-clause-element c =
    element_in_order c.args.inputs.now.doc.now.elements c.in_tree_order-order.result.now c.loop-number.number-index c.in_tree_order-order.ensures.order c.loop-number-test.true

pub style_number-requires-clause-parent : goal.style_number-requires-clause-parent
style_number-requires-clause-parent c =
    λ p is. ap (λ l. style_at c.loop-number.styler.table l p) c.deref.ensures.value
    ∙ c.loop-number.invariant.known p (parent_in_order c.args.inputs.now.doc.now.elements c.in_tree_order-order.result.now c.loop-number.number-index p c.in_tree_order-order.ensures.valid c.in_tree_order-order.ensures.order c.loop-number-test.true is)

pub style_number-requires-clause-root : goal.style_number-requires-clause-root
style_number-requires-clause-root c = c.loop-number.invariant.root

pub style_number-requires-clause-serves : goal.style_number-requires-clause-serves
style_number-requires-clause-serves c = c.loop-number.invariant.serves

pub index_mut-requires : goal.index_mut-requires
index_mut-requires c =
    omega (arith, c.loop-number.invariant.room c.loop-number.number-index c.loop-number-test.true)

pub style-requires : goal.style-requires
style-requires c = slice_get_within c.style_number.new.styler.table c.in_ok-style.style _ c.in_ok-style.ensures.style

pub loop-number-preserved : goal.loop-number-preserved
loop-number-preserved c =
    let doc = c.args.inputs.now.doc.now.elements in
    let sources = sources_seen c.args.inputs.now.sheets.now in
    let order : List ℕ = c.in_tree_order-order.result.now in
    let k : ℕ = c.loop-number.number-index in
    let below : k < length order = c.loop-number-test.true in
    let style = style_of doc sources in
    let own : arc_value c.in_ok-try_clone.field-0 ≡ style (get_or order k 0) = c.in_ok-try_clone.ensures ∙ same_Some _ _ (sym c.style.ensures ∙ c.in_ok-style.ensures.style) in
    record {
      room = λ j within. omega (arith, c.loop-number.invariant.room j within, length-set c.loop-number.known.items (get_or order k 0) c.in_ok-style.style);
      styled = styled_more arc_value style c.loop-number.styles.items c.push.new.self.items c.in_ok-try_clone.field-0 order k below c.in_ok-push.ensures.items c.loop-number.invariant.styled own;
      known = known_more style c.loop-number.styler.table c.style_number.new.styler.table c.loop-number.known.items order k c.in_ok-style.style below (c.loop-number.invariant.room k below) c.in_ok-style.ensures.kept c.in_ok-style.ensures.style c.loop-number.invariant.known;
      serves = c.in_ok-style.ensures.serves;
      root = knows_root_more doc sources c.loop-number.styler.table c.style_number.new.styler.table c.args.root c.in_ok-style.ensures.kept c.loop-number.invariant.root;
    }
