use Rattle.std.proofs.Common.{◌∷◌, ◌++◌, ◌+◌, [], ap, arith, drop, length, sym, take, ◌∙◌}
use Rattle.change_model.specs.ChildLists.{CanRemove}
use Rattle.dom_edits.proofs.ListEdits.{place_inside, removal_told}
use Rattle.dom_edits.proofs.subtrees.remove.Goals as goal

pub append_without-requires : goal.append_without-requires
append_without-requires c =
    let can : CanRemove c.args.doc.now c.args.x c.in-Some.parent = record { sound = c.requires.sound; parent = sym c.parent.ensures.parent ∙ c.in-Some.is } in
    omega (arith, place_inside can c.place.ensures.place, ap length c.children.ensures.children)

pub returns-clause-touched : goal.returns-clause-touched
returns-clause-touched c =
    let can : CanRemove c.args.doc.now c.args.x c.in-Some.parent = record { sound = c.requires.sound; parent = sym c.parent.ensures.parent ∙ c.in-Some.is } in
    removal_told can c.place.ensures.place
    (c.in_ok-push.ensures.ok ∙ ap (λ l. l ++ c.in-Some.parent ∷ []) c.new-parents.ensures.items)
    (c.in_ok-append_without.ensures ∙ (λ i. c.new-children.ensures.items i ++ (take c.place.result (c.children.ensures.children i) ++ drop (c.place.result + 1) (c.children.ensures.children i))))
    c.of_lists-2.ensures
