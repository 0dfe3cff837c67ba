use Rattle.std.proofs.Common.{◌≡◌, ◌++◌, false, drop, map}
use Rattle.syntax_model.specs.Token.{said}
use Rattle.custom_model.specs.Value.{spaced, unplaced}
use Rattle.css_tokens.proofs.custom.value.append_spaced.Given as goal

abbrev pub invariant-loop-token : goal.invariant-loop-token
invariant-loop-token l =
    l.list.items ++ map unplaced (spaced l.pending (map said (drop l.token-index l.tokens))) ≡ l.initial.list.items ++ map unplaced (spaced false (map said l.tokens))
