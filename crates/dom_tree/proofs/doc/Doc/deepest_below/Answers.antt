use Rattle.std.proofs.Common.{arith, ◌∙◌, get_or, nat_le}
use Rattle.scene_model.specs.Ancestors.{depth_of}
use Rattle.dom_tree.proofs.DepthLemmas.{above_last, below_at, each_below, get_any, one_deeper}
use Rattle.dom_tree.proofs.doc.Doc.deepest_below.Goals as goal
use Rattle.dom_tree.proofs.doc.Doc.deepest_below.Goals.{then-most-depth, else-most-depth}

pub depth_after-depth-requires-clause-there : goal.depth_after-depth-requires-clause-there
depth_after-depth-requires-clause-there c =
    (below_at c.below-below.ensures.sound c.args.x c.requires c.below-below.ensures.part c.loop-y.y-index c.loop-y-test.true).0

pub depth_after-depth-requires-clause-above : goal.depth_after-depth-requires-clause-above
depth_after-depth-requires-clause-above c =
    let y = below_at c.below-below.ensures.sound c.args.x c.requires c.below-below.ensures.part c.loop-y.y-index c.loop-y-test.true in
    above_last c.below-below.ensures.sound c.loop-y.last _ _ c.loop-y.invariant.at y.0 (y.1 ∙ omega arith)

pub loop-y-preserved : goal.loop-y-preserved
loop-y-preserved c =
    let doc = c.args.self.now.elements in
    let list = c.below-below.result.now in
    let y = below_at c.below-below.ensures.sound c.args.x c.requires c.below-below.ensures.part c.loop-y.y-index c.loop-y-test.true in
    record {
      there = y.0;
      at = y.1;
      depth = c.depth_after-depth.ensures.depth;
      few = elim c.if-most-depth.branch [
        | then-most-depth w ↦ omega (arith, w.most-is, c.depth_after-depth.ensures.few)
        | else-most-depth w ↦ omega (arith, w.most-is, c.loop-y.invariant.few)
      ];
      most = λ n. elim c.if-most-depth.branch [
        | then-most-depth w ↦ one_deeper (depth_of doc) (nat_le (depth_of doc c.args.x) n) list c.loop-y.y-index (get_or list c.loop-y.y-index 0) c.loop-y.most c.if-most-depth.most n
            c.loop-y-test.true (get_any list c.loop-y.y-index c.loop-y-test.true) (omega (arith, w.most-is, w.if-most-depth.true))
            (omega (arith, w.most-is, c.depth_after-depth.ensures.depth)) (λ a b. omega (arith, w.most-is, c.depth_after-depth.ensures.depth, b)) (c.loop-y.invariant.most n)
        | else-most-depth w ↦ one_deeper (depth_of doc) (nat_le (depth_of doc c.args.x) n) list c.loop-y.y-index (get_or list c.loop-y.y-index 0) c.loop-y.most c.if-most-depth.most n
            c.loop-y-test.true (get_any list c.loop-y.y-index c.loop-y-test.true) (omega (arith, w.most-is))
            (omega (arith, w.most-is, w.if-most-depth.false, c.depth_after-depth.ensures.depth)) (λ a b. omega (arith, w.most-is, a)) (c.loop-y.invariant.most n)
      ];
    }

pub returns-clause-deepest : goal.returns-clause-deepest
returns-clause-deepest c = λ n.
    c.loop-y.invariant.most n
    ∙ each_below c.below-below.ensures.sound c.args.x c.requires c.below-below.ensures.part (λ y. nat_le (depth_of c.args.self.now.elements y) n) c.loop-y.y-index (omega (arith, c.loop-y-test.false))
