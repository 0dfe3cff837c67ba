use Rattle.dom_tree.proofs.KeptLemmas.{attribute_is}
use Rattle.dom_tree.proofs.doc.Doc.attribute_atom.Goals as goal

pub returns : goal.returns
returns c = attribute_is c.self.invariant c.self.view_is _ c.requires c.args.name.now c.text_by_atom.ensures
