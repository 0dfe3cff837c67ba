use Rattle.std.proofs.Common.{◌-◌, map, length}
use Rattle.custom_properties.specs.Entries.{declared_entry}
use Rattle.cascade_core.specs.View.{head_of}
use Rattle.cascade_core.proofs.ListedLemmas.{ListedTo}
use Rattle.cascade_core.proofs.custom.declared_entries.Given as goal

abbrev pub invariant-loop-start : goal.invariant-loop-start
invariant-loop-start l = ListedTo head_of l.list l.start (map declared_entry l.entries.items)

abbrev pub decreases-loop-start : goal.decreases-loop-start
decreases-loop-start l = length l.list - l.start
