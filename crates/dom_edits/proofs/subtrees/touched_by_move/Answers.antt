use Rattle.std.proofs.Common.{◌≡◌, ◌∷◌, ◌++◌, ◌+◌, List, ℕ, [], ap, arith, drop, length, sym, take, ◌∙◌}
use Rattle.scene_model.specs.Lookups.{children}
use Rattle.edit_model.proofs.Accepted.{index_of_move}
use Rattle.dom_edits.specs.TouchedView.{list_pairs}
use Rattle.dom_edits.proofs.ListEdits.{index_two, move_allowed, one_told, place_inside, rest_is, still_told, taken, two_told}
use Rattle.dom_edits.proofs.subtrees.touched_by_move.Goals as goal

pub append_without-requires : goal.append_without-requires
append_without-requires c =
    let can = move_allowed c.args.doc.now c.requires.sound c.args.x c.args.parent c.args.index c.in-Some.from c.requires.accepted (sym c.parent.ensures.parent ∙ c.in-Some.is) in
    omega (arith, place_inside (taken can c.args.index) c.place-place.ensures.place, ap length c.children.ensures.children)

pub append_with-requires : goal.append_with-requires
append_with-requires c =
    let can = move_allowed c.args.doc.now c.requires.sound c.args.x c.args.parent c.args.index c.in-Some.from c.requires.accepted (sym c.parent.ensures.parent ∙ c.in-Some.is) in
    omega (arith, index_two can c.args.index c.place-place.ensures.place c.if-from-parent.true (index_of_move c.args.doc.now c.args.x c.args.parent c.args.index c.requires.accepted), ap length c.children-then-from-parent.ensures.children)

pub returns-then-from-parent : goal.returns-then-from-parent
returns-then-from-parent c =
    let can = move_allowed c.args.doc.now c.requires.sound c.args.x c.args.parent c.args.index c.in-Some.from c.requires.accepted (sym c.parent.ensures.parent ∙ c.in-Some.is) in
    let place = c.place-place.result in
    let without = c.in_ok-append_without.ensures ∙ (λ i. c.new-children.ensures.items i ++ (take place (c.children.ensures.children i) ++ drop (place + 1) (c.children.ensures.children i))) in
    two_told can c.args.index c.place-place.ensures.place c.if-from-parent.true
    (c.in_ok-push-2.ensures.ok ∙ ap (λ l. l ++ c.args.parent ∷ []) (c.in_ok-push.ensures.ok ∙ ap (λ l. l ++ c.in-Some.from ∷ []) c.new-parents.ensures.items))
    (c.in_ok-append_with.ensures ∙ (λ i. without i ++ (take c.args.index (c.children-then-from-parent.ensures.children i) ++ c.args.x ∷ drop c.args.index (c.children-then-from-parent.ensures.children i))))
    c.of_lists-then-from-parent.ensures

pub append_without-requires-then-place-index : goal.append_without-requires-then-place-index
append_without-requires-then-place-index c =
    let can = move_allowed c.args.doc.now c.requires.sound c.args.x c.args.parent c.args.index c.in-Some.from c.requires.accepted (sym c.parent.ensures.parent ∙ c.in-Some.is) in
    let inside = place_inside (taken can c.args.index) c.place-place.ensures.place in
    omega (arith, inside, ap length c.children-then-place-index.ensures.children, ap (λ p. length (children c.args.doc.now.elements p)) c.if-from-parent.false)

pub append_with-requires-then-place-index : goal.append_with-requires-then-place-index
append_with-requires-then-place-index c =
    let can = move_allowed c.args.doc.now c.requires.sound c.args.x c.args.parent c.args.index c.in-Some.from c.requires.accepted (sym c.parent.ensures.parent ∙ c.in-Some.is) in
    let place = c.place-place.result in
    let left = c.deref.ensures.value ∙ (c.in_ok-append_without-2.ensures ∙ (λ i. c.new-others.ensures.items i ++ (take place (c.children-then-place-index.ensures.children i) ++ drop (place + 1) (c.children-then-place-index.ensures.children i)))) in
    omega (arith, index_of_move c.args.doc.now c.args.x c.args.parent c.args.index c.requires.accepted, ap length (rest_is can c.args.index c.place-place.ensures.place c.if-from-parent.false left))

pub returns-then-place-index : goal.returns-then-place-index
returns-then-place-index c =
    let can = move_allowed c.args.doc.now c.requires.sound c.args.x c.args.parent c.args.index c.in-Some.from c.requires.accepted (sym c.parent.ensures.parent ∙ c.in-Some.is) in
    let place = c.place-place.result in
    let left = c.deref.ensures.value ∙ (c.in_ok-append_without-2.ensures ∙ (λ i. c.new-others.ensures.items i ++ (take place (c.children-then-place-index.ensures.children i) ++ drop (place + 1) (c.children-then-place-index.ensures.children i)))) in
    one_told can c.args.index c.place-place.ensures.place c.if-from-parent.false c.if-place-index.true (index_of_move c.args.doc.now c.args.x c.args.parent c.args.index c.requires.accepted)
    (c.in_ok-push-3.ensures.ok ∙ ap (λ l. l ++ c.args.parent ∷ []) c.new-parents.ensures.items)
    left
    (c.in_ok-append_with-2.ensures ∙ ap (λ (l : List ℕ). l ++ (take c.args.index c.deref.result.now ++ c.args.x ∷ drop c.args.index c.deref.result.now)) c.new-children.ensures.items)
    c.of_lists-then-place-index.ensures

pub returns : goal.returns
returns c =
    let can = move_allowed c.args.doc.now c.requires.sound c.args.x c.args.parent c.args.index c.in-Some.from c.requires.accepted (sym c.parent.ensures.parent ∙ c.in-Some.is) in
    still_told can c.args.index c.if-from-parent.false (sym c.if-place-index.false ∙ c.place-place.ensures.place)
    (c.of_lists-2.ensures ∙ (λ i. list_pairs (c.new-parents.ensures.items i) (c.new-children.ensures.items i)))
