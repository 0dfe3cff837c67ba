use Rattle.std.proofs.Common.{codes}
use Rattle.dom_tree.proofs.GivenLemmas.{class_given, class_text-IsUtf8, compared, id_given, id_text-IsUtf8, other_given}
use Rattle.dom_tree.proofs.labels.label_with.Goals as goal

pub returns-then-eq-clause-label : goal.returns-then-eq-clause-label
returns-then-eq-clause-label c = λ node after is given.
    id_given is given (compared _ (codes "id") _ _ c.utf8.name id_text-IsUtf8 c.eq.ensures c.if-eq.true) c.id_among.ensures.text c.id_among.ensures.named

pub returns-then-eq-2-clause-label : goal.returns-then-eq-2-clause-label
returns-then-eq-2-clause-label c = λ node after is given.
    let no_id = compared _ (codes "id") _ _ c.utf8.name id_text-IsUtf8 c.eq.ensures c.if-eq.false in
    let class = compared _ (codes "class") _ _ c.utf8.name class_text-IsUtf8 c.eq-2.ensures c.if-eq-2.true in
    class_given is given no_id class c.in_ok-classes_for.ensures.list c.in_ok-classes_for.ensures.listed

pub returns-clause-label : goal.returns-clause-label
returns-clause-label c = λ node after is given.
    other_given is given (compared _ (codes "id") _ _ c.utf8.name id_text-IsUtf8 c.eq.ensures c.if-eq.false)
    (compared _ (codes "class") _ _ c.utf8.name class_text-IsUtf8 c.eq-2.ensures c.if-eq-2.false)
