use Rattle.std.proofs.Common.{ap, ◌∙◌}
use Rattle.std.specs.List.{list_any}
use Rattle.std.specs.Str.{chars}
use Rattle.base_model.specs.Text.{same_text}
use Rattle.dom_tree.proofs.WordsOnce.{class_asked}
use Rattle.dom_tree.proofs.doc.Doc.has_class.Goals as goal

pub returns : goal.returns
returns c = c.has_text.ensures ∙ (ap (list_any (same_text (chars c.args.class.now))) c.class_names.ensures ∙ class_asked c.args.self.now c.args.x (chars c.args.class.now))
