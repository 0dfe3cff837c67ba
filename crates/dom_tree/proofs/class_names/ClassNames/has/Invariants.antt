use Rattle.std.specs.List.{list_any}
use Rattle.base_model.specs.Text.{same_text}
use Rattle.dom_tree.proofs.ClassLemmas.{AreOthers}
use Rattle.dom_tree.proofs.class_names.ClassNames.has.Given as goal

abbrev pub invariant-loop-class : goal.invariant-loop-class
invariant-loop-class l = AreOthers l.self-inside.names.now l.name l.class-items (list_any (same_text l.name) l.self) l.class-index
