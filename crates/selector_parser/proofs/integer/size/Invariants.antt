use Rattle.selector_parser.proofs.IntegerLemmas.{IsSizeSoFar}
use Rattle.selector_parser.proofs.integer.size.Given as goal

abbrev pub invariant-loop-c : goal.invariant-loop-c
invariant-loop-c l = IsSizeSoFar l.digits l.c-index l.size
