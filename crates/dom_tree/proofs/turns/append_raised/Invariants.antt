use Rattle.std.proofs.Common.{◌≡◌, ◌++◌, map, take, vec_capacity}
use Rattle.dom_tree.specs.Turned.{raised}
use Rattle.dom_tree.proofs.turns.append_raised.Given as goal

abbrev pub invariant-loop-number : goal.invariant-loop-number
invariant-loop-number l = record {
  items : l.list.items ≡ l.initial.list.items ++ map (raised l.last) (take l.number-index l.numbers);
  capacity : vec_capacity l.list ≡ vec_capacity l.initial.list;
}
