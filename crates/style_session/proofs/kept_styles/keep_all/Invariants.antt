use Rattle.std.proofs.Common.{◌≡◌, ◌<◌, length}
use Rattle.std.specs.List.{AllByRecursion}
use Rattle.style_session.specs.KeptView.{slot_at}
use Rattle.style_session.specs.declared.styled.Styled.{Styled}
use Rattle.style_session.proofs.CommitLemmas.{ArePlaced}
use Rattle.style_session.proofs.kept_styles.keep_all.Given as goal

abbrev pub invariant-loop-one : goal.invariant-loop-one
invariant-loop-one l = record {
  room : AllByRecursion (λ (one : Styled). one.number < length l.slots.items) l.left.items;
  places : length l.slots.items ≡ length l.fn.slots.items;
  placed : ArePlaced l.fn.list.items l.left.items (slot_at l.fn.slots.items) (slot_at l.slots.items);
}

abbrev pub decreases-loop-one : goal.decreases-loop-one
decreases-loop-one l = length l.left.items
