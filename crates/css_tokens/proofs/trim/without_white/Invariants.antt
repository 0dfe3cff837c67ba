use Rattle.std.proofs.Common.{◌≡◌, length}
use Rattle.syntax_model.specs.TokenKinds.{without_white}
use Rattle.css_tokens.proofs.trim.without_white.Given as goal

abbrev pub invariant-loop-first : goal.invariant-loop-first
invariant-loop-first l = without_white l.left ≡ without_white l.tokens

abbrev pub decreases-loop-first : goal.decreases-loop-first
decreases-loop-first l = length l.left
