use Rattle.std.proofs.Common.{◌≡◌, ◌≤◌, length}
use Rattle.syntax_model.specs.TokenKinds.{is_white}
use Rattle.syntax_model.specs.Outside.{from_first}
use Rattle.shorthands.proofs.word.from_white.Given as goal

abbrev pub invariant-tokens : goal.invariant-tokens
invariant-tokens l = record {
  rest : from_first is_white l.rest ≡ from_first is_white l.tokens;
  within : length l.rest ≤ length l.tokens;
}

abbrev pub decreases-tokens : goal.decreases-tokens
decreases-tokens l = length l.rest
