use Rattle.std.proofs.Common.{◌≡◌, drop}
use Rattle.style_lines.proofs.KeptLemmas.{forgotten}
use Rattle.style_lines.proofs.lengths.Lengths.forget.Given as goal

-- the others are to be forgotten still
abbrev pub invariant-loop-number : goal.invariant-loop-number
invariant-loop-number l = forgotten 0 (drop l.number-index l.numbers) l.self.kept.items ≡ forgotten 0 l.numbers l.initial.self.kept.items
