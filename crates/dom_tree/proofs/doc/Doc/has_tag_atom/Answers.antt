use Rattle.std.proofs.Common.{ap, ◌∙◌}
use Rattle.base_model.specs.Text.{same_text}
use Rattle.dom_tree.specs.Kept.{text_of}
use Rattle.dom_tree.proofs.KeptLemmas.{tag_is}
use Rattle.dom_tree.proofs.doc.Doc.has_tag_atom.Goals as goal

pub returns : goal.returns
returns c =
    c.is_atom.ensures ∙ ap (λ t. same_text t c.args.tag.now) (ap (λ n. text_of n c.tag.result) c.names.ensures ∙ tag_is c.self.invariant c.self.view_is _ c.requires c.tag.ensures.text)
