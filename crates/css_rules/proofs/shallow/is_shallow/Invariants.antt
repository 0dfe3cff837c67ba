use Rattle.std.proofs.Common.{◌≡◌, drop}
use Rattle.syntax_model.specs.Brackets.{is_shallow, is_shallow_within}
use Rattle.css_rules.proofs.shallow.is_shallow.Given as goal

abbrev pub invariant-loop-token : goal.invariant-loop-token
invariant-loop-token l = is_shallow_within l.brackets (drop l.token-index l.tokens) ≡ is_shallow l.tokens
