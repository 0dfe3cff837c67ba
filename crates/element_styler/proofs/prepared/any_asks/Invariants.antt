use Rattle.std.proofs.Common.{◌≡◌, drop}
use Rattle.rule_maps.specs.RulesView.{rules_seen}
use Rattle.element_styler.specs.Prepared.{some_asks}
use Rattle.element_styler.proofs.prepared.any_asks.Given as goal

abbrev pub invariant-loop-list : goal.invariant-loop-list
invariant-loop-list l = some_asks (rules_seen (drop l.list-index l.rules)) ≡ some_asks (rules_seen l.rules)
