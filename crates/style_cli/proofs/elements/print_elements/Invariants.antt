use Rattle.std.proofs.Common.{◌≤◌, take}
use Rattle.std.specs.List.{AllByRecursion}
use Rattle.std.specs.Io.KnownBytes.{Appends}
use Rattle.scene_model.specs.Lookups.{IsElement}
use Rattle.scene_model.specs.Scene.{elements_of}
use Rattle.report_text.specs.Elements.{lines_bytes}
use Rattle.style_cli.specs.Printing.{Serves}
use Rattle.style_cli.proofs.elements.print_elements.Given as goal

-- the lines so far are written, and those that are kept are right
abbrev pub invariant-printing : goal.invariant-printing
invariant-printing g l = record {
  elements : AllByRecursion (IsElement (elements_of l.session.scene)) l.number-items;
  later : g.K.Sink.faults l.initial.sink ≤ g.K.Sink.faults l.sink;
  serves : Serves l.session l.lines;
  written : Appends (g.K.Sink.held l.initial.sink) (g.K.Sink.held l.sink) (lines_bytes l.session.scene (take l.number-index l.number-items));
}
