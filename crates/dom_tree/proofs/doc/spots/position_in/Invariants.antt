use Rattle.std.proofs.Common.{length, ◌-◌, ◌≡◌, ◌≤◌, ◌==◌, ◌+◌, drop}
use Rattle.std.specs.List.{position_or_len}
use Rattle.dom_tree.proofs.doc.spots.position_in.Given as goal

abbrev pub invariant-loop-place : goal.invariant-loop-place
invariant-loop-place l = record {
  within : l.place ≤ length l.list;
  counted : l.place + position_or_len (λ y. y == l.number) (drop l.place l.list) ≡ position_or_len (λ y. y == l.number) l.list;
}

-- proposed from the loop's first test
abbrev pub decreases-loop-place : goal.decreases-loop-place
decreases-loop-place l = length l.list - l.place
