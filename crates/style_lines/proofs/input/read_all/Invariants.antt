use Rattle.std.proofs.Common.{length, ◌-◌, ◌≤◌}
use Rattle.std.specs.Io.KnownBytes.{Consumes}
use Rattle.base_model.specs.Limits.{input_limit}
use Rattle.style_lines.proofs.input.read_all.Given as goal

-- what was found is what the source lost, within the limit
abbrev pub invariant-reading : goal.invariant-reading
invariant-reading g l = record {
  later : g.S.Source.faults l.initial.source ≤ g.S.Source.faults l.source;
  taken : Consumes (g.S.Source.left l.initial.source) (g.S.Source.left l.source) l.found.items;
  fits : length l.found.items ≤ input_limit;
}

abbrev pub decreases-reading : goal.decreases-reading
decreases-reading g l = input_limit - length l.found.items
