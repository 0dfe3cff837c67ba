use Rattle.std.proofs.Common.{◌≡◌, ◌++◌, length}
use Rattle.syntax_model.specs.RulesIn.{declarations_in}
use Rattle.css_rules.specs.View.{declarations_of}
use Rattle.css_rules.proofs.declarations.declaration_list.Given as goal

abbrev pub invariant-loop-first : goal.invariant-loop-first
invariant-loop-first l = declarations_of l.list.items ++ declarations_in l.left ≡ declarations_in l.tokens

abbrev pub decreases-loop-first : goal.decreases-loop-first
decreases-loop-first l = length l.left
