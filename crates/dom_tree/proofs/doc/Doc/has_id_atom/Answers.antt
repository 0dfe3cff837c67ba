use Rattle.std.proofs.Common.{ap, sym, ◌∙◌, option_map}
use Rattle.base_model.specs.Text.{same_text}
use Rattle.dom_tree.specs.Kept.{text_of}
use Rattle.dom_tree.proofs.KeptLemmas.{id_is, no_id, some_id}
use Rattle.dom_tree.proofs.doc.Doc.has_id_atom.Goals as goal

pub returns-in-Some : goal.returns-in-Some
returns-in-Some c =
    let names = c.self.inside.columns.names in
    c.is_atom.ensures ∙ (ap (λ n. same_text (text_of n c.in-Some.name) c.args.id.now) c.names.ensures
    ∙ some_id _ (text_of names c.in-Some.name) c.args.id.now (sym (ap (option_map (text_of names)) c.in-Some.is) ∙ id_is c.self.invariant c.self.view_is _ c.requires c.index.ensures))

pub returns-in-None : goal.returns-in-None
returns-in-None c =
    let names = c.self.inside.columns.names in
    no_id _ c.args.id.now (sym (ap (option_map (text_of names)) c.in-None.is) ∙ id_is c.self.invariant c.self.view_is _ c.requires c.index.ensures)
