use Rattle.std.proofs.Common.{◌∙◌}
use Rattle.dom_tree.proofs.KeptLemmas.{tag_is}
use Rattle.dom_tree.proofs.NameLemmas.{lent_text}
use Rattle.dom_tree.proofs.doc.Doc.tag.Goals as goal

pub returns : goal.returns
returns c = lent_text c.tag.result c.names.ensures c.text.ensures ∙ tag_is c.self.invariant c.self.view_is _ c.requires c.tag.ensures.text
