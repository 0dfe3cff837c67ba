use Rattle.std.proofs.Common.{◌≡◌, drop}
use Rattle.selector_types.specs.View.{rules_seen}
use Rattle.sharing_model.specs.Siblings.{ask_for_siblings}
use Rattle.style_sharing.proofs.rules.lets_share.Given as goal

-- the rules that are left decide
abbrev pub invariant-loop-selectors : goal.invariant-loop-selectors
invariant-loop-selectors l = ask_for_siblings (rules_seen (drop l.selectors-index l.rules)) ≡ ask_for_siblings (rules_seen l.rules)
