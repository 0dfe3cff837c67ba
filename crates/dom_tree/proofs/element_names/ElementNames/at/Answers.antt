use Rattle.std.proofs.Common.{arith}
use Rattle.dom_tree.proofs.ElementNameLemmas.{class_after_id, class_after_tag}
use Rattle.dom_tree.proofs.element_names.ElementNames.at.Goals as goal

pub returns-in-Some-2-clause-name : goal.returns-in-Some-2-clause-name
returns-in-Some-2-clause-name c =
    class_after_id _ _ _ _ c.self.view_is c.args.index c.in-Some-2.is (omega arith) c.at.ensures.name

pub returns-in-None-clause-name : goal.returns-in-None-clause-name
returns-in-None-clause-name c =
    class_after_tag _ _ _ _ c.self.view_is c.args.index c.in-None.is (omega arith) c.at-in-None.ensures.name
