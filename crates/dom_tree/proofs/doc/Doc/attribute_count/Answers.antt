use Rattle.dom_tree.proofs.KeptLemmas.{attribute_count_is}
use Rattle.dom_tree.proofs.doc.Doc.attribute_count.Goals as goal

pub returns : goal.returns
returns c = attribute_count_is c.self.invariant c.self.view_is _ c.requires c.attribute_count.ensures
