use Rattle.std.proofs.Common.{ap, option_map, ◌∙◌}
use Rattle.dom_tree.specs.Kept.{text_of}
use Rattle.dom_tree.specs.ElementNames.{names_with}
use Rattle.dom_tree.proofs.KeptLemmas.{id_is, tag_is}
use Rattle.dom_tree.proofs.doc.Doc.names.Goals as goal

pub returns : goal.returns
returns c =
    let tag = ap (λ n. text_of n c.tag.result) c.names.ensures ∙ tag_is c.self.invariant c.self.view_is _ c.requires c.tag.ensures.text in
    let id = ap (λ n. option_map (text_of n) c.index.result.now.id) c.names.ensures ∙ id_is c.self.invariant c.self.view_is _ c.requires c.index.ensures in
    c.new.ensures ∙ (λ i. names_with (tag i) (id i) (c.class_names.ensures i))
