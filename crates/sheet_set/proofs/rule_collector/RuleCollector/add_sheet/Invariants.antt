use Rattle.std.proofs.Common.{◌≡◌, ◌++◌, length, filter_map}
use Rattle.layer_order.specs.View.{declarations}
use Rattle.syntax_model.specs.SheetRules.{sheet_rules_in}
use Rattle.sheet_model.specs.Sources.{edition_of}
use Rattle.sheet_set.specs.Rules.{rules_with, sheet_read}
use Rattle.sheet_set.proofs.Collected.{Completes, Fills, collected, layer_given}
use Rattle.sheet_set.proofs.rule_collector.RuleCollector.add_sheet.Given as goal

-- what is collected so far, and what the rules that are left give, is the whole
abbrev pub invariant-rules : goal.invariant-rules
invariant-rules l =
    let sheet = sheet_read l.at l.sheet in
    let all = sheet_rules_in (edition_of sheet) l.sheet.text in
    let rules = rules_with l.fn.self.rules.items l.fn.self.selectors.items in
    let layers = declarations l.fn.self.layers.items in
    record {
      completes : Completes sheet 0 (collected sheet 0 rules all)
          (rules_with l.self.rules.items l.self.selectors.items) l.index l.reader.left;
      fills : Fills (layers ++ filter_map (layer_given sheet) all) (layer_given sheet)
          (declarations l.self.layers.items) l.reader.left;
      paired : length l.self.rules.items ≡ length l.self.selectors.items;
    }

abbrev pub decreases-rules : goal.decreases-rules
decreases-rules l = length l.reader.left
