use Rattle.std.proofs.Common.{◌∷◌, ◌++◌, ◌+◌, [], ap, drop, take, ◌∙◌}
use Rattle.dom_edits.proofs.ListEdits.{few_inserted, insertion_told}
use Rattle.dom_edits.proofs.subtrees.insert.Goals as goal

pub insert-requires-clause-few : goal.insert-requires-clause-few
insert-requires-clause-few c = few_inserted c.requires.sound c.args.parent c.args.index c.args.nodes.now c.requires.shaped c.requires.accepted

pub returns-clause-touched : goal.returns-clause-touched
returns-clause-touched c =
    insertion_told c.requires.sound c.args.parent c.args.index c.args.nodes.now c.requires.shaped c.requires.accepted
    (c.in_ok-push.ensures.ok ∙ ap (λ l. l ++ c.args.parent ∷ []) c.new-parents.ensures.items)
    (c.in_ok-append_with.ensures ∙ (λ i. c.new-children.ensures.items i ++ (take c.args.index (c.children.ensures.children i) ++ (c.last.ensures.last i + 1) ∷ drop c.args.index (c.children.ensures.children i))))
    c.of_lists.ensures
