use Rattle.std.proofs.Common.{[]}
use Rattle.ancestor_model.specs.Counts.{full}
use Rattle.ancestor_filter.proofs.ReachLemmas.{seen_nothing, right_nothing}
use Rattle.ancestor_filter.proofs.ancestors.Ancestors.saturate.Goals as goal

pub returns-clause-nothing : goal.returns-clause-nothing
returns-clause-nothing c = seen_nothing c.clear.new.self.items c.saturate.new.self full c.clear.ensures.items c.saturate.ensures.counters

pub returns-clause-right : goal.returns-clause-right
returns-clause-right c doc = right_nothing doc.elements c.clear.new.self.items c.saturate.new.self c.clear.ensures.items (c.saturate.ensures.stands doc [])
