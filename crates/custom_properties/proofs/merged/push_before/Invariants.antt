use Rattle.std.proofs.Common.{◌≡◌, ◌++◌, length, map}
use Rattle.css_tokens.specs.CustomView.{entry_of}
use Rattle.custom_properties.specs.Merged.{lesser, beyond}
use Rattle.custom_properties.proofs.merged.push_before.Given as goal

abbrev pub invariant-loop-first : goal.invariant-loop-first
invariant-loop-first l = record {
  pushed : map entry_of l.list.items ++ lesser l.name (map entry_of l.left) ≡ map entry_of l.fn.list.items ++ lesser l.name (map entry_of l.kept);
  behind : beyond l.name (map entry_of l.left) ≡ beyond l.name (map entry_of l.kept);
}

abbrev pub decreases-loop-first : goal.decreases-loop-first
decreases-loop-first l = length l.left
