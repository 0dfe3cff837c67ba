use Rattle.std.proofs.Common.{◌≡◌, ℕ, None, cond, take}
use Rattle.style_session.specs.KeptView.{is_gone, slot_at}
use Rattle.style_session.proofs.kept_styles.drop_all.Given as goal

abbrev pub invariant-loop-x : goal.invariant-loop-x
invariant-loop-x l =
    (y : ℕ) → slot_at l.slots.items y ≡ cond (is_gone l.doc.elements (take l.x-index l.gone) y) None (slot_at l.fn.slots.items y)
