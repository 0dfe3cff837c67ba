use Rattle.std.proofs.Common.{◌≡◌, map, take}
use Rattle.css_tokens.specs.CustomView.{entry_of}
use Rattle.css_tokens.proofs.custom.map.are_same.Given as goal

abbrev pub invariant-loop-index : goal.invariant-loop-index
invariant-loop-index l = map entry_of (take l.index l.a) ≡ map entry_of (take l.index l.b)
