use Rattle.std.proofs.Common.{◌≡◌, ◌<◌, ◌∷◌, ◌++◌, [], length, slice_set, sym, ap, subst, ◌∙◌, rules}
use Rattle.std.specs.List.{AllByRecursion}
use Rattle.std.proofs.Math.ListN.{length-set}
use Rattle.style_session.specs.declared.styled.Styled.{Styled}
use Rattle.style_session.proofs.CommitLemmas.{placed-next, room-popped}
use Rattle.style_session.proofs.kept_styles.keep_all.Goals as goal

pub loop-one-preserved : goal.loop-one-preserved
loop-one-preserved c =
    let kept = c.loop-one.slots.items in
    let one = c.in-Some.one in
    let popped : c.loop-one.left.items ≡ c.pop.new.self.items ++ one ∷ [] = c.in-Some.ensures.items in
    let room = room-popped c.loop-one.left.items c.pop.new.self.items one (length kept) c.loop-one.invariant.room popped in
    let later = slice_set kept one.number c.keep.new.slot in
    let long : length later ≡ length kept = search (rules, length-set) in
    record {
      room = subst (λ n. AllByRecursion (λ (s : Styled). s.number < n) c.pop.new.self.items) (sym long) room.0;
      places = long ∙ c.loop-one.invariant.places;
      placed = placed-next c.args.list.items c.loop-one.left.items c.pop.new.self.items one _ kept later c.loop-one.invariant.placed popped room.1 (ap (slice_set kept one.number) c.keep.ensures);
    }
