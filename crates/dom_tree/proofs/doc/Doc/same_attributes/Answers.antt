use Rattle.dom_tree.proofs.KeptLemmas.{same_attributes_are}
use Rattle.dom_tree.proofs.doc.Doc.same_attributes.Goals as goal

pub returns : goal.returns
returns c = same_attributes_are c.self.invariant c.self.view_is c.args.x c.args.y c.requires.x c.requires.y c.same_attributes.ensures
