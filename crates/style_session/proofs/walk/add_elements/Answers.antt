use Rattle.std.proofs.Common.{◌≡◌, ◌<◌, ℕ, get_or, sym, ap, subst, ◌∙◌}
use Rattle.scene_model.specs.Numbers.{is_in}
use Rattle.invalidation_map.specs.Members.{Members, added}
use Rattle.invalidation_map.proofs.SetLemmas.{one_added}
use Rattle.style_session.proofs.WalkLemmas.{elements-more, elements-passed}
use Rattle.style_session.proofs.walk.add_elements.Goals as goal
use Rattle.style_session.proofs.walk.add_elements.Goals.{then-contains, else-contains}

pub add-requires : goal.add-requires
add-requires c =
    subst (λ room. get_or c.args.numbers.now c.loop-x.x-index 0 < room) (sym c.loop-x.invariant.room)
    (c.requires (get_or c.args.numbers.now c.loop-x.x-index 0) (sym c.contains.ensures ∙ c.if-contains.true))

pub loop-x-preserved : goal.loop-x-preserved
loop-x-preserved c =
    let doc = c.args.doc.now.elements in
    let was = λ (y : ℕ). is_in y c.args.due.now.items in
    let list = c.args.numbers.now in
    let due : Members = c.loop-x.due in
    let i : ℕ = c.loop-x.x-index in
    let x : ℕ = get_or list i 0 in
    elim c.if-contains.branch [
      | then-contains w ↦
          let now : c.if-contains.due ≡ added due x = w.due-is ∙ w.add.ensures in
          record {
            each = elements-more doc was list i c.loop-x-test.true due c.if-contains.due c.loop-x.invariant.each now;
            room = ap (λ (m : Members). m.room) now ∙ ((one_added due x).room ∙ c.loop-x.invariant.room);
          }
      | else-contains w ↦ record {
        each = λ y there. ap (λ (m : Members). is_in y m.items) w.due-is
            ∙ elements-passed doc was list i c.loop-x-test.true due.items c.loop-x.invariant.each (sym c.contains.ensures ∙ w.if-contains.false) y there;
        room = ap (λ (m : Members). m.room) w.due-is ∙ c.loop-x.invariant.room;
      }
    ]
