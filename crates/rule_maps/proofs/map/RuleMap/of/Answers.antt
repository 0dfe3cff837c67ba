use Rattle.std.proofs.Common.{refl}
use Rattle.rule_maps.specs.declared.map.RuleMap.{RuleMap}
use Rattle.rule_maps.specs.RulesView.{rules_seen}
use Rattle.rule_maps.proofs.GatherLemmas.{map_is}
use Rattle.rule_maps.proofs.map.RuleMap.of.Goals as goal

pub returns : goal.returns
returns c =
    let made : RuleMap = record {
      ids = c.in_ok-of.field-0;
      classes = c.in_ok-of-2.field-0;
      types = c.in_ok-of-3.field-0;
      attributes = c.in_ok-of-4.field-0;
      rest = c.push_all.new.self.rest;
    } in
    map_is c.new-gathered.result c.push_all.new.self (rules_seen c.args.rules.now) made c.new-gathered.ensures c.in_ok-push_all.ensures c.in_ok-of.ensures
    c.in_ok-of-2.ensures c.in_ok-of-3.ensures c.in_ok-of-4.ensures refl
