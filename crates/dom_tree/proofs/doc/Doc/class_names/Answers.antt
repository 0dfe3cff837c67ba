use Rattle.std.proofs.Common.{◌∙◌}
use Rattle.dom_tree.proofs.KeptLemmas.{classes_are}
use Rattle.dom_tree.proofs.doc.Doc.class_names.Goals as goal

pub returns : goal.returns
returns c = c.of.ensures ∙ classes_are c.self.invariant c.self.view_is _ c.requires c.index.ensures
