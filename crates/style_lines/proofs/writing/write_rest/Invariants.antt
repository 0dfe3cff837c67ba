use Rattle.std.proofs.Common.{length, take, ◌-◌, ◌≤◌}
use Rattle.std.specs.Io.KnownBytes.{Appends}
use Rattle.style_lines.proofs.writing.write_rest.Given as goal

-- the first bytes of the piece are written
abbrev pub invariant-loop-at : goal.invariant-loop-at
invariant-loop-at g l = record {
  within : l.at ≤ length l.piece;
  later : g.K.Sink.faults l.initial.sink ≤ g.K.Sink.faults l.sink;
  written : Appends (g.K.Sink.held l.initial.sink) (g.K.Sink.held l.sink) (take l.at l.piece);
}

abbrev pub decreases-loop-at : goal.decreases-loop-at
decreases-loop-at g l = length l.piece - l.at
