use Rattle.std.proofs.Common.{◌≡◌, ◌+◌, true, arith, ap, sym, subst, ◌∙◌, unwrap_or}
use Rattle.scene_model.specs.Ancestors.{depth_of}
use Rattle.scene_model.specs.Lookups.{IsElement}
use Rattle.change_model.specs.Sound.{is_below}
use Rattle.scene_model.proofs.Climbing.{depth_of-child, depth_of-root}
use Rattle.dom_tree.proofs.DepthLemmas.{depth_within, parent_next}
use Rattle.dom_tree.proofs.doc.Doc.depth_after.Goals as goal

pub returns-in_default : goal.returns-in_default
returns-in_default c = record {
  depth = sym (depth_of-root c.args.self.now.elements c.parent.ensures.valid c.args.y (sym c.parent.ensures.parent ∙ c.in_default.is));
  few = omega arith;
}

pub loop-top-preserved : goal.loop-top-preserved
loop-top-preserved c =
    let doc = c.args.self.now.elements in
    let valid = c.parent.ensures.valid in
    let (q, above, below) = parent_next doc valid c.in-Some.parent c.loop-top.top c.loop-top-test.true c.loop-top.invariant.below in
    let next : c.unwrap_or-top.result ≡ q = c.unwrap_or-top.ensures ∙ (ap (λ o. unwrap_or o c.in-Some.parent) (c.parent-in-loop-top.ensures.parent ∙ above)) in
    record {
      there = subst (IsElement doc) (sym next) (valid.parents c.loop-top.top q above).0;
      below = subst (λ z. is_below doc c.in-Some.parent z ≡ true) (sym next) below;
      depth = omega (arith, c.loop-top.invariant.depth, depth_of-child doc valid c.loop-top.top q above) ∙ ap (depth_of doc) (sym next);
    }

pub overflow_add-result : goal.overflow_add-result
overflow_add-result c =
    omega (arith, c.loop-top.invariant.depth, depth_within c.args.self.now.elements c.loop-top.top c.loop-top.invariant.there, c.parent.ensures.few)

pub returns-clause-depth : goal.returns-clause-depth
returns-clause-depth c =
    let doc = c.args.self.now.elements in
    let above = sym c.parent.ensures.parent ∙ c.in-Some.is in
    ap (λ n. n + 1) (c.loop-top.invariant.depth ∙ ap (depth_of doc) c.loop-top-test.false)
    ∙ sym (depth_of-child doc c.parent.ensures.valid c.args.y c.in-Some.parent above)

pub returns-clause-few : goal.returns-clause-few
returns-clause-few c =
    let doc = c.args.self.now.elements in
    let above = sym c.parent.ensures.parent ∙ c.in-Some.is in
    omega (
      arith,
      c.loop-top.invariant.depth,
      ap (depth_of doc) c.loop-top-test.false,
      depth_of-child doc c.parent.ensures.valid c.args.y c.in-Some.parent above,
      depth_within doc c.args.y
          c.requires.there,
      c.parent.ensures.few,
    )
