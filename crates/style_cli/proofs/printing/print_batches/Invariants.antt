use Rattle.std.proofs.Common.{◌≡◌, ◌≤◌, ◌+◌, length, [], ◌∷◌}
use Rattle.session_model.specs.Batches.{reports_from}
use Rattle.session_model.specs.StandingInvariant.{IsReached}
use Rattle.style_cli.specs.Printing.{Serves, batches_seen, edits_seen}
use Rattle.style_cli.specs.Text.{text_from}
use Rattle.style_lines.proofs.Written.{IsWritten}
use Rattle.style_cli.proofs.printing.print_batches.Given as goal

-- what comes of the next batch and of those behind it is to be written still
abbrev pub invariant-printing : goal.invariant-printing
invariant-printing g l = record {
  reached : IsReached l.session;
  serves : Serves l.session l.lines;
  later : g.K.Sink.faults l.initial.sink ≤ g.K.Sink.faults l.sink;
  numbered : l.number + length l.rest ≡ length l.initial.rest;
  written : IsWritten (g.K.Sink.held l.initial.sink) (g.K.Sink.held l.sink) (text_from l.number (reports_from l.session (edits_seen l.edits ∷ batches_seen l.rest))) (text_from 0 (reports_from l.initial.session ([] ∷ batches_seen l.initial.rest)));
}

abbrev pub decreases-printing : goal.decreases-printing
decreases-printing g l = length l.rest
