use Rattle.dom_tree.proofs.KeptLemmas.{attribute_names_are}
use Rattle.dom_tree.proofs.doc.Doc.attribute_names.Goals as goal

pub returns-clause-names : goal.returns-clause-names
returns-clause-names c = attribute_names_are c.self.invariant c.self.view_is _ c.requires c.attribute_names.ensures
