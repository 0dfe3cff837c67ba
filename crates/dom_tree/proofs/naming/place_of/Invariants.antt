use Rattle.std.proofs.Common.{length, ◌-◌, ◌≡◌, ◌≤◌, nat_lt, ◌+◌, drop}
use Rattle.std.specs.List.{prefix_len}
use Rattle.dom_tree.proofs.naming.place_of.Given as goal

abbrev pub invariant-loop-place : goal.invariant-loop-place
invariant-loop-place l = record {
  within : l.place ≤ length l.rows;
  counted : l.place + prefix_len (λ row. nat_lt row.name l.name) (drop l.place l.rows) ≡ prefix_len (λ row. nat_lt row.name l.name) l.rows;
}

-- proposed from the loop's first test
abbrev pub decreases-loop-place : goal.decreases-loop-place
decreases-loop-place l = length l.rows - l.place
