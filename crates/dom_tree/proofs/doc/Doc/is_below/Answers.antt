use Rattle.std.proofs.Common.{sym, ◌∙◌}
use Rattle.dom_tree.proofs.DepthLemmas.{below_next, below_none}
use Rattle.dom_tree.proofs.doc.Doc.is_below.Goals as goal

pub returns-in_default : goal.returns-in_default
returns-in_default c =
    below_none c.args.self.now.elements c.parent.ensures.valid c.args.top c.loop-at.at c.loop-at-test.true (sym c.parent.ensures.parent ∙ c.in_default.is)
    ∙ c.loop-at.invariant.same

pub loop-at-preserved : goal.loop-at-preserved
loop-at-preserved c =
    let valid = c.parent.ensures.valid in
    let above = sym c.parent.ensures.parent ∙ c.in-Some.is in
    record {
      there = (valid.parents c.loop-at.at c.in-Some.parent above).0;
      same = below_next c.args.self.now.elements valid c.args.top c.loop-at.at c.in-Some.parent c.loop-at-test.true above ∙ c.loop-at.invariant.same;
    }
