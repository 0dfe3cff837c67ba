use Rattle.std.proofs.Common.{◌≡◌, ◌++◌, drop, map}
use Rattle.std.specs.FinMap as finmap
use Rattle.css_tokens.specs.CustomView.{entry_of}
use Rattle.custom_properties.specs.Merged.{merged, with_values}
use Rattle.custom_properties.proofs.merged.merged.Given as goal

abbrev pub invariant-loop-place : goal.invariant-loop-place
invariant-loop-place l =
    map entry_of l.list.items ++ merged (drop l.place (with_values (finmap.entries l.declared) l.values)) (map entry_of l.left)
    ≡ merged (with_values (finmap.entries l.declared) l.values) (finmap.entries l.inherited)
