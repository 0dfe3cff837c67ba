use Rattle.std.proofs.Common.{◌≡◌, map, drop}
use Rattle.cascade_core.specs.Rollback.{unbounded, walked}
use Rattle.cascade_core.specs.View.{bound_seen, head_of}
use Rattle.cascade_core.proofs.rollback.walk.Given as goal

abbrev pub invariant-loop-d : goal.invariant-loop-d
invariant-loop-d g l =
    let means = g.S.Substitution.substituted l.fn.substitution in
    (l.substitution ≡ l.fn.substitution)
    × (walked means (bound_seen l.bound) (map head_of (drop l.d-index l.list)) ≡ walked means unbounded (map head_of l.list))
