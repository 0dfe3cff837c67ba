use Rattle.ancestor_filter.proofs.ReachLemmas.{seen_nothing, right_nothing}
use Rattle.ancestor_filter.proofs.ancestors.Ancestors.clear.Goals as goal

pub returns-clause-nothing : goal.returns-clause-nothing
returns-clause-nothing c = seen_nothing c.clear.new.self.items c.clear-2.new.self 0 c.clear.ensures.items c.clear-2.ensures.counters

pub returns-clause-right : goal.returns-clause-right
returns-clause-right c doc = right_nothing doc.elements c.clear.new.self.items c.clear-2.new.self c.clear.ensures.items c.clear-2.ensures.stands
