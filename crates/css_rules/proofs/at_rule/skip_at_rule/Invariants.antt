use Rattle.std.proofs.Common.{◌≡◌, [], length}
use Rattle.syntax_model.specs.RulesIn.{after_at_rule}
use Rattle.css_rules.proofs.at_rule.skip_at_rule.Given as goal

abbrev pub invariant-loop-token : goal.invariant-loop-token
invariant-loop-token l = after_at_rule l.brackets l.left ≡ after_at_rule [] l.initial.left

abbrev pub decreases-loop-token : goal.decreases-loop-token
decreases-loop-token l = length l.left
