use Rattle.std.proofs.Common.{◌≡◌, ◌++◌, filter, map, take}
use Rattle.std.specs.List.{flat_map}
use Rattle.cascade_core.specs.Wanted.{entry_by, wanted_by}
use Rattle.cascade_core.specs.View.{lent_of}
use Rattle.cascade_core.proofs.gathered.gathered.Given as goal

abbrev pub invariant-loop-d : goal.invariant-loop-d
invariant-loop-d l =
    map (entry_by l.wanted) l.list.items ≡ filter (wanted_by l.wanted) (flat_map lent_of (take l.d-index l.declarations.matched.now))

abbrev pub invariant-loop-d-2 : goal.invariant-loop-d-2
invariant-loop-d-2 l =
    map (entry_by l.wanted) l.list.items ≡ filter (wanted_by l.wanted) (flat_map lent_of (l.declarations.matched.now ++ take l.d-index l.declarations.attached.now))
