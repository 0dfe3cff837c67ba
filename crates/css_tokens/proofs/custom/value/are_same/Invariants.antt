use Rattle.std.proofs.Common.{◌≡◌, map, take}
use Rattle.syntax_model.specs.Token.{said}
use Rattle.css_tokens.proofs.custom.value.are_same.Given as goal

abbrev pub invariant-loop-index : goal.invariant-loop-index
invariant-loop-index l = map said (take l.index l.a) ≡ map said (take l.index l.b)
