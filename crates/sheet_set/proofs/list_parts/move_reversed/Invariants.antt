use Rattle.std.proofs.Common.{◌≡◌, ◌+◌, ◌++◌, ◌≤◌, drop, length, reverse, vec_capacity, vec_len}
use Rattle.sheet_set.proofs.MovedItems.{AreLeft}
use Rattle.sheet_set.proofs.list_parts.move_reversed.Given as goal

abbrev pub invariant-loop-list : goal.invariant-loop-list
invariant-loop-list g l = record {
  whole : AreLeft l.list.items l.initial.list.items;
  moved : l.to.items ≡ l.initial.to.items ++ reverse (drop (length l.list.items) l.initial.list.items);
  least : l.left ≤ length l.list.items;
  capacity : vec_capacity l.list ≡ vec_capacity l.initial.list;
  room : vec_len l.to + vec_len l.list ≤ vec_capacity l.to + l.left;
}

abbrev pub decreases-loop-list : goal.decreases-loop-list
decreases-loop-list g l = vec_len l.list
