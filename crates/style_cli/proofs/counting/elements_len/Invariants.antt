use Rattle.std.proofs.Common.{◌≡◌, length}
use Rattle.sheet_model.specs.Sources.{sources_of}
use Rattle.scene_model.specs.Scene.{elements_of}
use Rattle.report_text.specs.Elements.{line_bytes, lines_bytes}
use Rattle.style_cli.specs.Printing.{ServesLengths}
use Rattle.style_cli.proofs.CountLemmas.{bytes_from}
use Rattle.style_cli.proofs.counting.elements_len.Given as goal

-- the bytes of the other lines are to be counted still, and the lengths that are kept are right
abbrev pub invariant-loop-number : goal.invariant-loop-number
invariant-loop-number l = record {
  counted : bytes_from (line_bytes (elements_of l.session.scene) (sources_of l.session.scene.sheets)) l.number-items l.number-index l.len ≡ length (lines_bytes l.session.scene l.number-items);
  serves : ServesLengths l.session l.lengths.kept.items;
}
