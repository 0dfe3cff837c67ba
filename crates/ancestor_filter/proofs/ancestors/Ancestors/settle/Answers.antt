use Rattle.ancestor_filter.proofs.ReachLemmas.{reached, settled}
use Rattle.ancestor_filter.proofs.ancestors.Ancestors.settle.Goals as goal

pub returns-in-Some-clause-ok : goal.returns-in-Some-clause-ok
returns-in-Some-clause-ok c =
    let elements = c.args.self.now.elements in
    let first = settled elements c.in-Some.field-0 c.args.p c.in-Some.ensures c.requires.at.at in
    reached c.args.doc.now.elements c.requires.below.valid c.args.x c.args.p c.requires.below.parent elements c.requires.at.right.0 first
