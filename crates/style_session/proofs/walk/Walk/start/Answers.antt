use Rattle.std.proofs.Common.{◌≡◌, ◌+◌, ◌||◌, ℕ, length, replicate, sym, ap, ◌∙◌, arith}
use Rattle.std.proofs.lemmas.List.{length-replicate}
use Rattle.scene_model.specs.Numbers.{is_in}
use Rattle.invalidation_map.specs.Members.{Members}
use Rattle.style_session.specs.FirstWalking.{unknown}
use Rattle.style_session.specs.Walking.{known_at}
use Rattle.style_session.proofs.WalkLemmas.{known-replicate}
use Rattle.style_session.proofs.WalkLentLemmas.{matched-seen}
use Rattle.style_session.proofs.walk.Walk.start.Goals as goal

pub add_elements-requires : goal.add_elements-requires
add_elements-requires c = λ x there.
    let near = c.last-last.ensures.numbered x there in
    let long : c.in_ok-due.due.room ≡ c.last-last.result + 1 = ap (λ (m : Members). m.room) c.in_ok-due.ensures in
    omega arith

pub add_elements-requires-2 : goal.add_elements-requires-2
add_elements-requires-2 c = λ x there.
    let near = c.last-last.ensures.numbered x there in
    let long : c.in_ok-due.due.room ≡ c.last-last.result + 1 = ap (λ (m : Members). m.room) c.in_ok-due.ensures in
    omega (arith, c.add_elements.ensures.room)

pub returns : goal.returns
returns c =
    let lists = c.args.lists.now in
    let pending = lists.pending.now in
    let due = c.add_elements-2.new.due in
    let places = c.last-last.result + 1 in
    let none : c.in_ok-vec.field-0.items ≡ replicate places unknown = c.in_ok-vec.ensures.items_if_clones_equal (λ y h. h) in
    record {
      room = λ x there.
          let near = c.last-last.ensures.numbered x there in
          omega (arith, ap length none, length-replicate {A = ℕ} places unknown);
      due_room = λ x there.
          let near = c.last-last.ensures.numbered x there in
          let long : c.in_ok-due.due.room ≡ c.last-last.result + 1 = ap (λ (m : Members). m.room) c.in_ok-due.ensures in
          omega (arith, c.add_elements.ensures.room, c.add_elements-2.ensures.room);
      known = λ x. ap (λ items. known_at items x) none ∙ known-replicate places x;
      due = λ x there.
          c.add_elements-2.ensures.each x there
          ∙ (ap (λ b. b || is_in x c.fresh.result.now) (c.add_elements.ensures.each x there)
          ∙ (ap (λ (m : Members). (is_in x m.items || is_in x c.marked.result.now) || is_in x c.fresh.result.now) c.in_ok-due.ensures
          ∙ (ap (λ l. is_in x l || is_in x c.fresh.result.now) c.marked.ensures
          ∙ (ap (λ l. is_in x pending.marked || is_in x l) c.fresh.ensures
          ∙ (ap (λ b. is_in x pending.marked || (b || is_in x pending.fresh)) (sym lists.later)
          ∙ matched-seen lists x there)))));
      styled = c.new-2.ensures.items;
    }
