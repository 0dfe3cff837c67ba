use Rattle.std.proofs.Common.{sym, ◌∙◌}
use Rattle.ancestor_filter.proofs.ReachLemmas.{climbed, climbed_all}
use Rattle.ancestor_filter.proofs.ancestors.climb.Goals as goal

pub loop-p-preserved : goal.loop-p-preserved
loop-p-preserved c =
    let doc = c.args.doc.now.elements in
    let valid = c.in-Some.ensures.valid in
    let parent = sym c.in-Some.ensures.parent in
    record {
      there = (valid.parents c.loop-p.at c.in-Some.p parent).0;
      joined = climbed doc valid c.loop-p.at c.in-Some.p c.loop-p.path.items c.push.new.self.items _ parent c.in_ok-push.ensures.items c.loop-p.invariant.joined;
    }

pub returns-clause-ok : goal.returns-clause-ok
returns-clause-ok c =
    climbed_all c.args.doc.now.elements c.parent.ensures.valid c.loop-p.at c.loop-p.path.items _ (sym c.parent.ensures.parent ∙ c.in_default.is) c.loop-p.invariant.joined
