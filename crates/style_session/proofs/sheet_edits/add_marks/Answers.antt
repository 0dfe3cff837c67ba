use Rattle.std.proofs.Common.{◌<◌, ◌||◌, ℕ, Bool, filter, map, sym, ap, subst, ◌∙◌, arith}
use Rattle.base_model.proofs.Lists.{each_weaker}
use Rattle.scene_model.specs.Lookups.{IsElement, numbers}
use Rattle.scene_model.specs.Numbers.{is_in}
use Rattle.scene_model.proofs.Lists.{each-filter}
use Rattle.selector_types.specs.SimpleView.{key_seen}
use Rattle.invalidation_map.specs.Members.{AreBelow}
use Rattle.invalidation_map.specs.SheetMarked.{is_sheet_marked}
use Rattle.session_model.proofs.FlagLemmas.{each_number}
use Rattle.style_session.specs.PendingView.{PendingMembers, without_marked, without_room}
use Rattle.style_session.proofs.sheet_edits.add_marks.Goals as goal

pub add_marked-requires : goal.add_marked-requires
add_marked-requires c =
    let els = c.args.doc.now.elements in
    let room = c.reserve.new.self.room in
    let marked : ℕ → Bool = is_sheet_marked els (map key_seen c.args.change.now.keys.items) c.args.change.now.swapped in
    let below : (x : ℕ) → IsElement els x → x < room = λ x there.
    let near = c.last.ensures.numbered x there in
    omega (arith, near, c.in_ok-reserve.ensures.room) in
    subst (AreBelow room) (sym (c.deref.ensures.value ∙ c.in_ok-found.ensures.order))
    (each_weaker (IsElement els) (λ x. x < room) below (filter marked (numbers els))
    (each-filter (IsElement els) (IsElement els) marked (λ x _ there. there) (numbers els) (each_number els)))

pub returns-clause-ok : goal.returns-clause-ok
returns-clause-ok c =
    let same = c.in_ok-reserve.ensures.others in
    record {
      each = λ x.
          c.add_marked.ensures.each x
          ∙ (ap (λ (p : PendingMembers). is_in x p.marked || is_in x c.deref.result.now) same
          ∙ (ap (λ l. is_in x c.args.pending.now.marked || is_in x l) c.deref.ensures.value
          ∙ ap (λ b. is_in x c.args.pending.now.marked || b) (c.in_ok-found.ensures.marked x)));
      others = ap without_room c.add_marked.ensures.others ∙ ap without_marked same;
    }
