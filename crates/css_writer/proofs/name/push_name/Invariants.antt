use Rattle.std.proofs.Common.{◌≡◌, ◌++◌, drop}
use Rattle.syntax_model.specs.Written.{name_text}
use Rattle.css_writer.proofs.name.push_name.Given as goal

abbrev pub invariant-loop-c : goal.invariant-loop-c
invariant-loop-c l = l.out ++ name_text (drop l.c-index l.name) ≡ l.initial.out ++ name_text l.name
