use Rattle.std.proofs.Common.{◌≡◌, ◌++◌, map, take}
use Rattle.css_tokens.specs.CustomView.{entry_of}
use Rattle.custom_properties.proofs.merged.push_all.Given as goal

abbrev pub invariant-loop-entry : goal.invariant-loop-entry
invariant-loop-entry l =
    map entry_of l.list.items ≡ map entry_of l.fn.list.items ++ map entry_of (take l.entry-index l.entries)
