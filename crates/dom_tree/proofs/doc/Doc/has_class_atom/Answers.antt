use Rattle.std.proofs.Common.{ap, ◌∙◌}
use Rattle.std.specs.List.{list_any}
use Rattle.base_model.specs.Text.{same_text}
use Rattle.dom_tree.proofs.WordsOnce.{class_asked}
use Rattle.dom_tree.proofs.doc.Doc.has_class_atom.Goals as goal

pub returns : goal.returns
returns c = c.has.ensures ∙ (ap (list_any (same_text c.args.class.now)) c.class_names.ensures ∙ class_asked c.args.self.now c.args.x c.args.class.now)
