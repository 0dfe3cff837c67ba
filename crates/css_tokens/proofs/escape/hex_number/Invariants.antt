use Rattle.css_tokens.proofs.HexLemmas.{IsReadUpTo}
use Rattle.css_tokens.proofs.escape.hex_number.Given as goal

abbrev pub invariant-loop-digit : goal.invariant-loop-digit
invariant-loop-digit l = IsReadUpTo l.digits l.digit-index l.number
