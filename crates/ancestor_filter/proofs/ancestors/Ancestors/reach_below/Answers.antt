use Rattle.std.proofs.Common.{◌∷◌, sym, ap, ◌∙◌}
use Rattle.scene_model.proofs.Climbing.{ancestors-child}
use Rattle.ancestor_filter.proofs.ReachLemmas.{reached_at}
use Rattle.ancestor_filter.proofs.ancestors.Ancestors.reach_below.Goals as goal

pub enter-requires : goal.enter-requires
enter-requires c =
    let doc = c.args.doc.now.elements in
    let below = c.requires.below in
    let at = sym c.is_at.ensures ∙ c.if-is_at.true in
    record {
      there = (below.valid.parents c.args.x c.args.p below.parent).0;
      right = c.requires.right;
      above = reached_at doc below.valid c.args.p c.in-Some.q (sym c.in-Some.ensures.parent) c.args.self.now c.requires.right at;
    }

pub returns-then-is_at-clause-ok : goal.returns-then-is_at-clause-ok
returns-then-is_at-clause-ok c =
    let doc = c.args.doc.now.elements in
    let below = c.requires.below in
    let at = sym c.is_at.ensures ∙ c.if-is_at.true in
    let above = reached_at doc below.valid c.args.p c.in-Some.q (sym c.in-Some.ensures.parent) c.args.self.now c.requires.right at in
    c.in_ok-enter.ensures.ok ∙ (ap (λ l. c.args.p ∷ l) above ∙ sym (ancestors-child doc below.valid c.args.x c.args.p below.parent))
