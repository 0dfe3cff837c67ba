use Rattle.std.proofs.Common.{◌≡◌, ◌++◌, Some, filter_map, ap, sym, ◌∙◌}
use Rattle.std.specs.Prelude.{option_map}
use Rattle.css_rules.specs.Reading.{kind_in}
use Rattle.css_rules.specs.View.{context_of}
use Rattle.css_rules.specs.declared.rule.RuleKind.TheVariants.{Style, Layer}
use Rattle.layer_order.specs.View.{declarations}
use Rattle.syntax_model.specs.SheetRules.{sheet_rules_in}
use Rattle.sheet_model.specs.StyleRules.{style_rules_in, layers_in}
use Rattle.sheet_model.specs.Sources.{edition_of}
use Rattle.sheet_set.specs.Rules.{rules_with, sheet_read}
use Rattle.sheet_set.proofs.Collected.{all_filled, collected, layer_given, layers_given, rules_done}
use Rattle.sheet_set.proofs.RulesRead.{all_read, layer_is_no_style, layer_read, style_is_no_layer, style_read}
use Rattle.sheet_set.proofs.rule_collector.RuleCollector.add_sheet.Goals as goal

pub rules-preserved-in-Style : goal.rules-preserved-in-Style
rules-preserved-in-Style c =
    let sheet = sheet_read c.args.at c.args.sheet.now in
    let left = c.rules.reader.left in
    let after = c.next.new.self in
    let moved = c.in_ok-kind.ensures.rule in
    let some : option_map kind_in after.current ≡ Some Style =
    sym c.in_ok-kind.ensures.kind ∙ (c.in-Some.is ∙ ap Some c.in-Style.is) in
    let added = c.in_ok-index-in-Style.ensures in
    record {
      completes = style_read sheet left after moved _ _ _ _ _ c.prelude.result.now c.block.result.now
          (context_of c.context.result.now) some
          (record { prelude_is = c.prelude.ensures; block_is = c.block.ensures; context_is = c.context.ensures })
          added.adds added.next c.rules.invariant.completes;
      fills = style_is_no_layer sheet left after moved _ _ _ some (ap (λ l. declarations l.items) added.layers)
          c.rules.invariant.fills;
      paired = added.paired;
    }

pub rules-preserved : goal.rules-preserved
rules-preserved c =
    let sheet = sheet_read c.args.at c.args.sheet.now in
    let left = c.rules.reader.left in
    let after = c.next.new.self in
    let moved = c.in_ok-kind.ensures.rule in
    let some : option_map kind_in after.current ≡ Some Layer =
    sym c.in_ok-kind.ensures.kind ∙ (c.in-Some.is ∙ ap Some c.in-Layer.is) in
    let added = c.in_ok-add_layer-in-Layer.ensures in
    record {
      completes = layer_is_no_style sheet left after moved _ _ _ _ some
          (ap (λ r. rules_with r.items c.add_layer.new.self.selectors.items) added.rules
          ∙ ap (λ l. rules_with c.rules.self.rules.items l.items) added.selectors)
          c.rules.invariant.completes;
      fills = layer_read sheet left after moved _ _ _ (context_of c.context-in-Layer.result.now) some
          c.context-in-Layer.ensures added.adds c.rules.invariant.fills;
      paired = rw (added.rules, added.selectors) c.rules.invariant.paired;
    }

pub returns-clause-adds : goal.returns-clause-adds
unfolding style_rules_in
returns-clause-adds c =
    let sheet = sheet_read c.args.at c.args.sheet.now in
    let found = rules_with c.args.self.now.rules.items c.args.self.now.selectors.items in
    let none = sym c.in_ok-kind.ensures.kind ∙ c.in_default.is in
    let all = sheet_rules_in (edition_of sheet) c.args.sheet.now.text in
    rules_done sheet 0 (collected sheet 0 found all) _ c.rules.index c.rules.reader.left
    (all_read c.rules.reader.left c.next.new.self c.in_ok-kind.ensures.rule none) c.rules.invariant.completes

pub returns-clause-layers : goal.returns-clause-layers
unfolding layers_in
returns-clause-layers c =
    let sheet = sheet_read c.args.at c.args.sheet.now in
    let all = sheet_rules_in (edition_of sheet) c.args.sheet.now.text in
    let before = declarations c.args.self.now.layers.items in
    let none = sym c.in_ok-kind.ensures.kind ∙ c.in_default.is in
    all_filled (before ++ filter_map (layer_given sheet) all) (layer_given sheet) _ c.rules.reader.left
    (all_read c.rules.reader.left c.next.new.self c.in_ok-kind.ensures.rule none) c.rules.invariant.fills
    ∙ ap (λ l. before ++ l) (layers_given sheet all)
