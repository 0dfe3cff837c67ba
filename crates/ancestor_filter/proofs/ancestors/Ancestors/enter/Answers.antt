use Rattle.ancestor_filter.proofs.ReachLemmas.{entered}
use Rattle.ancestor_filter.proofs.ancestors.Ancestors.enter.Goals as goal

pub returns-clause-right : goal.returns-clause-right
returns-clause-right c =
    let was = c.self.inside in
    entered c.args.doc.now.elements c.args.self.now was.path.items was.filter c.self.view_is c.args.x c.requires
    c.push.new.self.items c.push-2.new.self c.in_ok-push.ensures.items c.push-2.ensures.stands
