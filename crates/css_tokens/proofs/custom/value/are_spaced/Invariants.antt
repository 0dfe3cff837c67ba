use Rattle.std.proofs.Common.{◌≡◌, ◌↔◌, false, drop, map}
use Rattle.syntax_model.specs.Token.{said}
use Rattle.custom_model.specs.Value.{spaced}
use Rattle.css_tokens.proofs.NormalLemmas.{IsSpaced}
use Rattle.css_tokens.proofs.custom.value.are_spaced.Given as goal

abbrev pub invariant-loop-token : goal.invariant-loop-token
invariant-loop-token l =
    IsSpaced l.pending (map said (drop l.token-index l.tokens)) ↔ (spaced false (map said l.tokens) ≡ map said l.tokens)
