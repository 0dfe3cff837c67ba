use Rattle.std.proofs.Common.{length}
use Rattle.css_tokens.specs.Scanned.{unit_by}
use Rattle.css_tokens.proofs.RunLemmas.{IsReadUpTo}
use Rattle.css_tokens.proofs.run.run_len.Given as goal

abbrev pub invariant-loop-after : goal.invariant-loop-after
invariant-loop-after l = IsReadUpTo (unit_by l.grammar) l.text l.len l.rest

abbrev pub decreases-loop-after : goal.decreases-loop-after
decreases-loop-after l = length l.rest
