use Rattle.std.proofs.Common.{◌≡◌, length, reverse}
use Rattle.syntax_model.specs.TokenKinds.{without_white}
use Rattle.css_tokens.proofs.trim.without_white_end.Given as goal

abbrev pub invariant-loop-last : goal.invariant-loop-last
invariant-loop-last l = without_white (reverse l.left) ≡ without_white (reverse l.tokens)

abbrev pub decreases-loop-last : goal.decreases-loop-last
decreases-loop-last l = length l.left
