use Rattle.std.proofs.Common.{◌≡◌, true, map, take}
use Rattle.std.specs.List.{list_all}
use Rattle.cascade_core.specs.Names.{have_same_name}
use Rattle.cascade_core.specs.View.{head_of}
use Rattle.cascade_core.proofs.names.run_length.Given as goal

abbrev pub invariant-loop-place : goal.invariant-loop-place
invariant-loop-place l =
    list_all (have_same_name (head_of l.first)) (map head_of (take l.place l.list)) ≡ true
