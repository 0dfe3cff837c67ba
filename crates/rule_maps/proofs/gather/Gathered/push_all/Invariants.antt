use Rattle.ancestor_filter.specs.Names.{slot}
use Rattle.rule_map_model.specs.Places.{placed_from}
use Rattle.rule_maps.specs.RulesView.{rules_seen}
use Rattle.rule_maps.proofs.GatherLemmas.{Leaves, rules_from}
use Rattle.rule_maps.proofs.gather.Gathered.push_all.Given as goal

abbrev pub invariant-loop-index : goal.invariant-loop-index
invariant-loop-index l = Leaves l.fn.self l.self (rules_from l.rules l.index) (placed_from slot 0 (rules_seen l.rules))
