use Rattle.std.proofs.Common.{◌≤◌, length, sym, arith}
use Rattle.css_rules.proofs.ShallowLemmas.{few_are_shallow}
use Rattle.css_rules.proofs.shallow.is_shallow.Goals as goal

pub returns-then-tokens-le-NESTING_LIMIT : goal.returns-then-tokens-le-NESTING_LIMIT
returns-then-tokens-le-NESTING_LIMIT c =
    let few : length c.args.tokens.now ≤ 64 = omega arith in
    sym (few_are_shallow c.args.tokens.now few)
