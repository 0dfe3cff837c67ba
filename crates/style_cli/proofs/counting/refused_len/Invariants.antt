use Rattle.std.proofs.Common.{◌≡◌, length}
use Rattle.std.specs.List.{flat_map}
use Rattle.style_cli.specs.Printing.{refused_bytes}
use Rattle.style_cli.proofs.CountLemmas.{bytes_from}
use Rattle.style_cli.proofs.counting.refused_len.Given as goal

-- the bytes of the other lines are to be counted still
abbrev pub invariant-loop-index : goal.invariant-loop-index
invariant-loop-index l = bytes_from refused_bytes l.refused l.index l.len ≡ length (flat_map refused_bytes l.refused)
