use Rattle.std.proofs.Common.{map}
use Rattle.custom_properties.specs.Entries.{declared_entry}
use Rattle.cascade_core.proofs.ByNameLemmas.{resolved_all}
use Rattle.cascade_core.proofs.custom.changed_custom.Goals as goal

pub returns-in-None : goal.returns-in-None
returns-in-None c =
    let entries = c.in_ok-declared_entries in
    let each = rw c.deref.ensures.value at entries.ensures.each in
    let all = resolved_all c.in_ok-list.ensures (map declared_entry entries.field-0.items) entries.ensures.sorted each c.args.parent.now in
    rw (c.in-None.is, c.of_entries-declared.ensures, c.map.ensures, all) at c.in_ok-changed.ensures.map

pub returns : goal.returns
returns c =
    let entries = c.in_ok-declared_entries in
    let each = rw c.deref.ensures.value at entries.ensures.each in
    let all = resolved_all c.in_ok-list.ensures (map declared_entry entries.field-0.items) entries.ensures.sorted each c.args.parent.now in
    rw c.in_ok-printed-in-Some.ensures
    (rw (c.in-Some.is, c.of_entries-declared.ensures, c.map.ensures, all) at c.in_ok-changed.ensures.map)
