use Rattle.std.proofs.Common.{◌≡◌, ◌++◌, drop}
use Rattle.css_writer.proofs.output.Output.push_all.Given as goal

abbrev pub invariant-loop-c : goal.invariant-loop-c
invariant-loop-c l = l.self ++ drop l.c-index l.characters ≡ l.initial.self ++ l.characters
