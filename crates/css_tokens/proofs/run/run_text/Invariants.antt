use Rattle.std.proofs.Common.{◌≡◌, ◌++◌, length}
use Rattle.syntax_model.specs.TextUnits.{said_of}
use Rattle.css_tokens.specs.Scanned.{unit_by}
use Rattle.css_tokens.proofs.run.run_text.Given as goal

abbrev pub invariant-loop-rest : goal.invariant-loop-rest
invariant-loop-rest l = l.said ++ said_of (unit_by l.grammar) l.rest ≡ said_of (unit_by l.grammar) l.text

abbrev pub decreases-loop-rest : goal.decreases-loop-rest
decreases-loop-rest l = length l.rest
