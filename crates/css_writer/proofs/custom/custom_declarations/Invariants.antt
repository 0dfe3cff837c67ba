use Rattle.std.proofs.Common.{◌≡◌, ◌++◌, drop, map}
use Rattle.css_tokens.specs.CustomView.{entry_of}
use Rattle.custom_model.specs.Printed.{custom_declarations}
use Rattle.css_writer.proofs.CustomLemmas.{each_declared}
use Rattle.css_writer.proofs.custom.custom_declarations.Given as goal

abbrev pub invariant-loop-entry : goal.invariant-loop-entry
invariant-loop-entry l = l.out ++ each_declared (map entry_of (drop l.entry-index l.rest)) ≡ custom_declarations l.map
