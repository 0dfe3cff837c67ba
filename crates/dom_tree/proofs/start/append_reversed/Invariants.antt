use Rattle.std.proofs.Common.{◌≡◌, ◌++◌, reverse}
use Rattle.dom_tree.proofs.start.append_reversed.Given as goal

abbrev pub invariant-loop-number : goal.invariant-loop-number
invariant-loop-number l =
    l.list.items ++ reverse l.number-iterator.iter.rest.now ≡ l.initial.list.items ++ reverse l.numbers
