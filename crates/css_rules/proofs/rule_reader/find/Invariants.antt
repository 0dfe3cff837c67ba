use Rattle.std.proofs.Common.{◌≡◌}
use Rattle.css_rules.specs.Left.{rules_left, to_read}
use Rattle.css_rules.specs.Parser.{walk_of}
use Rattle.css_rules.proofs.rule_reader.find.Given as goal

-- the rules that are left are the same, with those that were found
abbrev pub invariant-loop-alloc : goal.invariant-loop-alloc
invariant-loop-alloc l = rules_left (walk_of l.initial.parser) l.initial.tokens ≡ rules_left (walk_of l.parser) l.tokens

abbrev pub decreases-loop-alloc : goal.decreases-loop-alloc
decreases-loop-alloc l = to_read (walk_of l.parser) l.tokens
