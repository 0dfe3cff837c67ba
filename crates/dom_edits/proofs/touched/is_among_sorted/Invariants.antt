use Rattle.std.proofs.Common.{◌≡◌, false, take}
use Rattle.dom_edits.specs.TouchView.{touch_seen}
use Rattle.dom_edits.proofs.TouchLemmas.{among}
use Rattle.dom_edits.proofs.touched.is_among_sorted.Given as goal

abbrev pub invariant-loop-other : goal.invariant-loop-other
invariant-loop-other l = among (touch_seen l.touch) (take l.other-index l.other-items) ≡ false
