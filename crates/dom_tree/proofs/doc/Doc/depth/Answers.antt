use Rattle.std.proofs.Common.{arith, sym, ◌∙◌}
use Rattle.scene_model.proofs.Climbing.{depth_of-child, depth_of-root}
use Rattle.dom_tree.proofs.DepthLemmas.{depth_within}
use Rattle.dom_tree.proofs.doc.Doc.depth.Goals as goal

pub overflow_add-depth : goal.overflow_add-depth
overflow_add-depth c =
    omega (arith, c.loop-parent.invariant.same, depth_within c.args.self.now.elements c.args.x c.requires, c.parent.ensures.few)

pub loop-parent-preserved : goal.loop-parent-preserved
loop-parent-preserved c =
    let valid = c.parent.ensures.valid in
    let above = sym c.parent.ensures.parent ∙ c.in-Some.is in
    record {
      there = (valid.parents c.loop-parent.top c.in-Some.parent above).0;
      same = omega (arith, c.loop-parent.invariant.same, depth_of-child c.args.self.now.elements valid c.loop-parent.top c.in-Some.parent above);
    }

pub returns-clause-depth : goal.returns-clause-depth
returns-clause-depth c =
    omega (arith, c.loop-parent.invariant.same, depth_of-root c.args.self.now.elements c.parent.ensures.valid c.loop-parent.top (sym c.parent.ensures.parent ∙ c.in_default.is))

pub returns-clause-few : goal.returns-clause-few
returns-clause-few c =
    omega (arith, c.loop-parent.invariant.same, depth_within c.args.self.now.elements c.args.x c.requires, c.parent.ensures.few)
