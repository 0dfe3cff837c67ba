use Rattle.std.proofs.Common.{length}
use Rattle.css_tokens.proofs.TokenizerLemmas.{IsReadFrom}
use Rattle.css_tokens.proofs.token_reader.past_comments.Given as goal

abbrev pub invariant-loop-rest : goal.invariant-loop-rest
invariant-loop-rest l = IsReadFrom l.text l.place l.start l.rest

abbrev pub decreases-loop-rest : goal.decreases-loop-rest
decreases-loop-rest l = length l.rest
