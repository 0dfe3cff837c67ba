use Rattle.std.proofs.Common.{◌≡◌, None, drop}
use Rattle.style_lines.proofs.KeptLemmas.{forgotten}
use Rattle.style_lines.proofs.lines.Lines.forget.Given as goal

-- the others are to be forgotten still
abbrev pub invariant-loop-number : goal.invariant-loop-number
invariant-loop-number l = forgotten None (drop l.number-index l.numbers) l.self ≡ forgotten None l.numbers l.initial.self
