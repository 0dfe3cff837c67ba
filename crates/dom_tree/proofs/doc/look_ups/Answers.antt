use Rattle.std.proofs.Common.{ap, ◌∙◌, true}
use Rattle.std.proofs.Math.ListN.{replicate}
use Rattle.dom_tree.proofs.doc.look_ups.Goals as goal

pub returns-clause-present : goal.returns-clause-present
returns-clause-present c = c.in_ok-present.ensures.items_if_clones_equal (λ y h. h) ∙ ap (λ n. replicate n true) c.len.ensures
