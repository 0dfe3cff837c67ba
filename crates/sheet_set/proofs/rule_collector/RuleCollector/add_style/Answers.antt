use Rattle.std.proofs.Common.{◌≡◌, ◌+◌, ◌∷◌, ◌++◌, [], Option, Some, length, map, sum_by, ap, sym, ◌∙◌}
use Rattle.std.specs.Prelude.{flat_map, option_map, option_to_list}
use Rattle.std.proofs.lemmas.List.Concat.{length-flat_map}
use Rattle.css_rules.specs.View.{context_of}
use Rattle.layer_order.specs.View.{origin_of}
use Rattle.selector_types.specs.View.{selector_of}
use Rattle.sheet_model.specs.SelectorsIn.{selectors_in}
use Rattle.sheet_model.specs.Declared.{block_declared}
use Rattle.sheet_model.specs.StyleRules.{StyleRule, style_rule_of}
use Rattle.sheet_model.specs.Sources.{all_placed}
use Rattle.shorthands.specs.View.{declared_count, declared_of}
use Rattle.sheet_set.specs.Rules.{block_of, rule_count, rules_with, sheet_read}
use Rattle.sheet_set.proofs.Collected.{rule_is, rules_with-last, style_is}
use Rattle.sheet_set.proofs.rule_collector.RuleCollector.add_style.Goals as goal

pub returns-clause-adds : goal.returns-clause-adds
returns-clause-adds c =
    let sheet = sheet_read c.args.at c.args.sheet.now in
    let style = block_of c.args.prelude.now c.args.block.now (context_of c.args.context.now) in
    let before = c.args.self.now.rules.items in
    let lists = c.args.self.now.selectors.items in
    let list = c.in-Some.selectors in
    let rule = c.in_ok-rule.rule in
    let made = c.in_ok-rule.ensures in
    let some : selectors_in style.prelude ≡ Some (map selector_of list.items) = sym c.in_ok-selectors.ensures ∙ ap (option_map (λ l. map selector_of l.items)) c.in-Some.is in
    let kept : flat_map declared_of rule.body.value.declarations.items ≡ block_declared style.block = ap (λ v. flat_map declared_of v.items) made.0 ∙ c.in_ok-declarations.ensures in
    let read = style_is style (map selector_of list.items) some in
    ap (λ l. rules_with l c.push-2.new.self.items) c.in_ok-push.ensures.items
    ∙ (ap (rules_with (before ++ rule ∷ [])) c.in_ok-push-2.ensures.items
    ∙ (rules_with-last before lists rule list c.requires
    ∙ ap (λ l. rules_with before lists ++ l) (ap (λ r. r ∷ []) (rule_is rule list.items _ style.context sheet c.args.index kept (ap origin_of made.1.0) (made.1.1.0 ∙ c.in_ok-share.ensures) made.1.1.1.0 made.1.1.1.1)
    ∙ sym (ap (λ (o : Option StyleRule). all_placed sheet 0 c.args.index (option_to_list o)) read))))

pub returns-clause-next : goal.returns-clause-next
returns-clause-next c =
    let style = block_of c.args.prelude.now c.args.block.now (context_of c.args.context.now) in
    let list = c.in-Some.selectors in
    let rule = c.in_ok-rule.rule in
    let made = c.in_ok-rule.ensures in
    let some : selectors_in style.prelude ≡ Some (map selector_of list.items) = sym c.in_ok-selectors.ensures ∙ ap (option_map (λ l. map selector_of l.items)) c.in-Some.is in
    let kept : flat_map declared_of rule.body.value.declarations.items ≡ block_declared style.block = ap (λ v. flat_map declared_of v.items) made.0 ∙ c.in_ok-declarations.ensures in
    let read = style_is style (map selector_of list.items) some in
    let counted : rule_count (style_rule_of style) ≡ sum_by declared_count rule.body.value.declarations.items = ap rule_count read ∙ (ap length (sym kept) ∙ length-flat_map declared_of rule.body.value.declarations.items) in
    c.end-next.ensures
    ∙ (ap (λ n. n + sum_by declared_count rule.body.value.declarations.items) made.1.1.1.1 ∙ ap (λ n. c.args.index + n) (sym counted))
