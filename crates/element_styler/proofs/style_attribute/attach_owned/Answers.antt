use Rattle.std.proofs.Common.{◌≡◌, ◌+◌, ◌∷◌, rules, ap, ◌∙◌}
use Rattle.shorthands.specs.View.{declared_of}
use Rattle.cascade_core.specs.View.{all_applied, matched_of}
use Rattle.element_styler.proofs.AppliedLemmas.{style_added}
use Rattle.element_styler.proofs.style_attribute.attach_owned.Goals as goal

pub loop-declared-preserved : goal.loop-declared-preserved
loop-declared-preserved c =
    let d = c.in-Some.declared in
    let rest = c.loop-declared.declared-iterator.rest.items in
    let left = c.next.new.self.rest.items in
    let counted = c.in-Some-checked_add.ensures.1 ∙ ap (λ n. c.loop-declared.index + n) c.count-count.ensures in
    let here : rest ≡ d ∷ left = search rules in
    record {
      attached = style_added matched_of c.args.layers.now c.rank-rank.result c.loop-declared.attached.items c.push.new.self.items _ d rest left c.loop-declared.index
          c.in-Some-checked_add.next _ c.loop-declared.invariant.rank c.in_ok-push.ensures.items
          (ap (λ p. all_applied p p.index (declared_of d)) c.attached_priority.ensures) counted here c.loop-declared.invariant.attached;
      rank = c.loop-declared.invariant.rank;
    }
