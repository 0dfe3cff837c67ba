use Rattle.std.proofs.Common.{◌≡◌, sym, subst, ap, ◌∙◌, rules as the_rules}
use Rattle.sheet_set.specs.View.{sources_seen}
use Rattle.rule_maps.specs.RulesView.{rules_seen}
use Rattle.element_styler.specs.Prepared.{IsMapOf, lists_of, some_asks}
use Rattle.element_styler.proofs.MatchLemmas.{lists_seen}
use Rattle.element_styler.proofs.prepared.Prepared.of.Goals as goal

pub returns : goal.returns
returns c =
    let sheets = c.args.sheets.now in
    let lists : rules_seen c.selectors-rules.result.now ≡ lists_of (sources_seen sheets) = ap rules_seen c.selectors-rules.ensures.list ∙ sym (lists_seen sheets) in
    record {
      map = subst (λ l. IsMapOf l c.in_ok-of.field-0) lists c.in_ok-of.ensures;
      name = search the_rules;
      asks = c.any_asks.ensures ∙ ap some_asks lists;
    }
