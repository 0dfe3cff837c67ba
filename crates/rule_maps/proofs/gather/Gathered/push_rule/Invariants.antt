use Rattle.ancestor_filter.specs.Names.{slot}
use Rattle.selector_types.specs.View.{selectors_of}
use Rattle.rule_map_model.specs.Places.{placed_in}
use Rattle.rule_maps.proofs.GatherLemmas.{Leaves, in_rule_from}
use Rattle.rule_maps.proofs.gather.Gathered.push_rule.Given as goal

abbrev pub invariant-loop-index : goal.invariant-loop-index
invariant-loop-index l =
    Leaves l.fn.self l.self (in_rule_from l.rule l.selectors l.index) (placed_in slot l.rule 0 (selectors_of l.selectors))
