use Rattle.std.proofs.Common.{◌≡◌, ◌+◌, ◌∷◌, drop, ap, ◌∙◌}
use Rattle.shorthands.specs.View.{declared_of}
use Rattle.sheet_set.proofs.Left.{item_at}
use Rattle.cascade_core.specs.View.{all_applied, lent_of}
use Rattle.element_styler.proofs.AppliedLemmas.{style_added}
use Rattle.element_styler.proofs.style_attribute.attach.Goals as goal

pub loop-declared-preserved : goal.loop-declared-preserved
loop-declared-preserved c =
    let items = c.args.list.now in
    let d = c.declared-item.result in
    let i = c.loop-declared.declared-index in
    let counted = c.in-Some.ensures.1 ∙ ap (λ n. c.loop-declared.index + n) c.count.ensures in
    let here : drop i items ≡ d ∷ drop (i + 1) items = item_at items i d c.loop-declared-test.true c.declared-item.is in
    record {
      attached = style_added lent_of c.args.layers.now c.rank-rank.result c.loop-declared.attached.items c.extend_from_slice.new.self.items _ d (drop i items)
          (drop (i + 1) items) c.loop-declared.index c.in-Some.next _ c.loop-declared.invariant.rank c.in_ok-extend_from_slice.ensures.items
          (ap (λ p. all_applied p p.index (declared_of d)) c.attached_priority.ensures) counted here c.loop-declared.invariant.attached;
      rank = c.loop-declared.invariant.rank;
    }
