use Rattle.std.proofs.Common.{◌≡◌, ◌++◌, length}
use Rattle.css_rules.specs.View.{rules_of}
use Rattle.css_rules.proofs.sheet.unread_rules.Given as goal

-- the rules so far and those that are left are all of them
abbrev pub invariant-loop-rules : goal.invariant-loop-rules
invariant-loop-rules l = rules_of l.rules.items ++ l.reader.left ≡ l.initial.reader.left

abbrev pub decreases-loop-rules : goal.decreases-loop-rules
decreases-loop-rules l = length l.reader.left
