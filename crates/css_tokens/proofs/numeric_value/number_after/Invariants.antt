use Rattle.std.proofs.Common.{◌≡◌, ◌≤◌, drop, min}
use Rattle.syntax_model.specs.Numbers.{decimal_number}
use Rattle.css_tokens.proofs.numeric_value.number_after.Given as goal

abbrev pub invariant-loop-digit : goal.invariant-loop-digit
invariant-loop-digit l = record {
  within : l.number ≤ l.most;
  value : min l.most (decimal_number l.number (drop l.digit-index l.digits)) ≡ min l.most (decimal_number l.value l.digits);
}
