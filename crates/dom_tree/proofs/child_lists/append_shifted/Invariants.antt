use Rattle.std.proofs.Common.{◌≡◌, ◌++◌, map, take, vec_capacity}
use Rattle.dom_tree.specs.ChildLists.{shifted}
use Rattle.dom_tree.proofs.child_lists.append_shifted.Given as goal

abbrev pub invariant-loop-span : goal.invariant-loop-span
invariant-loop-span l = record {
  items : l.spans.items ≡ l.initial.spans.items ++ map (shifted l.start) (take l.span-index l.found);
  capacity : vec_capacity l.spans ≡ vec_capacity l.initial.spans;
}
