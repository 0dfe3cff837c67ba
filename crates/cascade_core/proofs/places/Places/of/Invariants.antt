use Rattle.std.proofs.Common.{◌≡◌, ◌+◌, ◌++◌, length, take}
use Rattle.std.specs.List.{flat_map}
use Rattle.cascade_core.specs.Declarations.{in_order}
use Rattle.cascade_core.specs.View.{lent_of}
use Rattle.cascade_core.specs.Won.{AreWinners}
use Rattle.cascade_core.proofs.places.Places.of.Given as goal

abbrev pub invariant-loop-d : goal.invariant-loop-d
invariant-loop-d l =
    AreWinners (in_order l.declarations) l.places (flat_map lent_of (take l.d-index l.declarations.matched.now)) × (l.place ≡ l.d-index)

abbrev pub invariant-loop-d-2 : goal.invariant-loop-d-2
invariant-loop-d-2 l =
    let before = l.declarations.matched.now in
    AreWinners (in_order l.declarations) l.places (flat_map lent_of (before ++ take l.d-index l.declarations.attached.now)) × (l.place ≡ length before + l.d-index)
