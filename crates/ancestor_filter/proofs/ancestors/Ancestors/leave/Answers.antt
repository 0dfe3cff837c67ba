use Rattle.ancestor_filter.proofs.ReachLemmas.{left}
use Rattle.ancestor_filter.proofs.ancestors.Ancestors.leave.Goals as goal

pub returns-in-Some-clause-right : goal.returns-in-Some-clause-right
returns-in-Some-clause-right c =
    let was = c.self.inside in
    left c.args.doc.now.elements c.args.self.now was.path.items was.filter c.self.view_is c.requires
    c.pop.new.self.items c.pop-in-Some.new.self c.in-Some.x c.in-Some.ensures.items c.pop-in-Some.ensures.stands
