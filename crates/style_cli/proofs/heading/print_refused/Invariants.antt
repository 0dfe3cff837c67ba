use Rattle.std.proofs.Common.{take, ◌≤◌}
use Rattle.std.specs.List.{flat_map}
use Rattle.std.specs.Io.KnownBytes.{Appends}
use Rattle.style_cli.specs.Printing.{refused_bytes}
use Rattle.style_cli.proofs.heading.print_refused.Given as goal

-- the lines so far are written
abbrev pub invariant-loop-index : goal.invariant-loop-index
invariant-loop-index g l = record {
  later : g.K.Sink.faults l.initial.sink ≤ g.K.Sink.faults l.sink;
  written : Appends (g.K.Sink.held l.initial.sink) (g.K.Sink.held l.sink) (flat_map refused_bytes (take l.index l.refused));
}
