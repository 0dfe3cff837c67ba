use Rattle.std.proofs.Common.{◌≡◌, ◌++◌, drop, flat_map}
use Rattle.syntax_model.specs.Written.{string_char_text}
use Rattle.css_writer.proofs.quoted.push_string.Given as goal

abbrev pub invariant-loop-c : goal.invariant-loop-c
invariant-loop-c l = l.out ++ flat_map string_char_text (drop l.c-index l.text) ≡ l.initial.out ++ flat_map string_char_text l.text
