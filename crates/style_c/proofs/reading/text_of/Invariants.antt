use Rattle.style_c.proofs.LineLemmas.{IsReached}
use Rattle.style_c.proofs.reading.text_of.Given as goal

-- the lines of the elements so far are made, and none of these is stale
abbrev pub invariant-loop-number : goal.invariant-loop-number
invariant-loop-number l = IsReached l.session l.number-items l.number-index l.text
