use Rattle.std.proofs.Common.{◌≡◌, ◌++◌, length}
use Rattle.css_tokens.specs.Opened.{brackets_in}
use Rattle.syntax_model.specs.Brackets.{closers}
use Rattle.css_tokens.proofs.open_brackets.OpenBrackets.append_closers.Given as goal

abbrev pub invariant-loop-bracket : goal.invariant-loop-bracket
invariant-loop-bracket l =
    l.tokens.items ++ closers (brackets_in l.self-inside.stack) ≡ l.initial.tokens.items ++ closers (brackets_in l.initial.self-inside.stack)

abbrev pub decreases-loop-bracket : goal.decreases-loop-bracket
decreases-loop-bracket l = length l.self-inside.stack
