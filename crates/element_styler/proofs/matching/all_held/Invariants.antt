use Rattle.std.proofs.Common.{◌≡◌, ◌++◌}
use Rattle.std.specs.Prelude.{flat_map}
use Rattle.cascade_core.specs.View.{lent_of, matched_of}
use Rattle.element_styler.proofs.matching.all_held.Given as goal

-- those so far, and those that are left, are all
abbrev pub invariant-loop-one : goal.invariant-loop-one
invariant-loop-one l =
    flat_map matched_of l.list.items ++ flat_map lent_of l.one-iterator.rest.items ≡ flat_map lent_of l.fn.lent.items
