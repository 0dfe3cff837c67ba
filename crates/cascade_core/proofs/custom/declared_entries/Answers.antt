use Rattle.std.proofs.Common.{◌≡◌, ◌+◌, ◌++◌, ◌≤◌, arith, drop, length, length-drop, map, option_map, option_to_list}
use Rattle.std.proofs.lemmas.List.{append-nil, length-take-le, map-append, take_rest}
use Rattle.custom_properties.specs.Entries.{declared_entry}
use Rattle.cascade_core.specs.View.{head_of}
use Rattle.cascade_core.proofs.ListedLemmas.{next_listed}
use Rattle.cascade_core.proofs.custom.declared_entries.Goals as goal
use Rattle.cascade_core.proofs.custom.declared_entries.Goals.{in-Some+in_ok-push, in_default}

pub loop-start-preserved : goal.loop-start-preserved
loop-start-preserved c =
    let list = c.args.list.now in
    let start = c.loop-start.start in
    let k = c.run_length.result in
    let entries = c.loop-start.entries.items in
    let ahead = take_rest list start in
    let within : k ≤ length (drop start list) = rw ahead at c.run_length.ensures.within in
    let fits : start + k ≤ length list = omega (arith, length-drop start list, c.loop-start-test.true) in
    let is = rw ahead at c.run_length.ensures.run in
    let new : map declared_entry c.match-branch-2.entries.items ≡ map declared_entry entries ++ option_to_list (option_map declared_entry c.in_ok-entry.field-0) = elim c.match-branch-2.branch [
      | in-Some+in_ok-push w ↦ rw (w.entries-is, w.in_ok-push.ensures.items, map-append, w.in-Some.is)
      | in_default w ↦ rw (w.entries-is, w.in_default.is, append-nil)
    ] in
    rw (new, c.in_ok-entry.ensures, ahead, length-take-le k (drop start list) within)
    (next_listed head_of list start k fits _ is c.loop-start.invariant)
