use Rattle.dom_tree.proofs.KeptLemmas.{few_seen, parent_is, parent_fits}
use Rattle.dom_tree.proofs.doc.Doc.parent.Goals as goal

pub overflow_add-result : goal.overflow_add-result
overflow_add-result c = parent_fits c.self.invariant c.self.view_is _ c.requires c.in-Some.is c.parent.ensures

pub returns-in-Some-clause-parent : goal.returns-in-Some-clause-parent
returns-in-Some-clause-parent c = parent_is c.self.invariant c.self.view_is _ c.requires c.in-Some.is c.parent.ensures

pub returns-in-Some-clause-few : goal.returns-in-Some-clause-few
returns-in-Some-clause-few c = few_seen c.self.invariant c.self.view_is

pub returns-in-None-clause-parent : goal.returns-in-None-clause-parent
returns-in-None-clause-parent c = parent_is c.self.invariant c.self.view_is _ c.requires c.in-None.is c.parent.ensures

pub returns-in-None-clause-few : goal.returns-in-None-clause-few
returns-in-None-clause-few c = few_seen c.self.invariant c.self.view_is
