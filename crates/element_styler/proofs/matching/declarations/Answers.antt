use Rattle.std.proofs.Common.{◌≡◌, ◌<◌, ◌≤◌, ◌∷◌, ◌+◌, ◌++◌, [], None, Some, map, slice_get, drop, get_or, length, ap, sym, ◌∙◌, append-nil, flat_map, arith, rules as the_rules}
use Rattle.std.proofs.lemmas.List.{drop_all, get_or-map}
use Rattle.std.proofs.lemmas.Option.{slice_get-get_or}
use Rattle.base_model.proofs.Lists.{slice_get_some}
use Rattle.cascade_core.specs.View.{lent_of}
use Rattle.cascade_model.specs.Matching.{all_matched}
use Rattle.sheet_set.specs.Ranks.{rank_seen}
use Rattle.sheet_set.specs.View.{placed_rule_of, put_at, rules_of, sources_seen}
use Rattle.sheet_set.proofs.Collected.{none_left, one_more}
use Rattle.sheet_set.proofs.Left.{item_at}
use Rattle.element_styler.specs.MatchedRules.{declarations_of, rule_declares}
use Rattle.element_styler.proofs.MatchLemmas.{declares_at, declares_none, no_rule_at, rule_at}
use Rattle.element_styler.proofs.matching.declarations.Goals as goal
use Rattle.element_styler.proofs.matching.declarations.Goals.{in-Some+in_ok-add_declarations, in_default}

pub loop-one-init : goal.loop-one-init
loop-one-init c =
    ap (λ l. flat_map lent_of l ++ declarations_of (sources_seen c.args.sheets.now) c.args.found.now) c.in_ok-list.ensures.items

pub loop-one-preserved : goal.loop-one-preserved
loop-one-preserved c =
    let sheets = c.args.sheets.now in
    let sources = sources_seen sheets in
    let found = c.args.found.now in
    let rs = c.rules-rules.result.now in
    let ls = sheets.selectors.items in
    let i = c.loop-one.one-index in
    let one = c.one-item.result in
    let old = flat_map lent_of c.loop-one.list.items in
    let here : drop i found ≡ one ∷ drop (i + 1) found = item_at found i one c.loop-one-test.true c.one-item.is in
    elim c.match-get.branch [
      | in-Some+in_ok-add_declarations w ↦ (let rule = w.in-Some.rule.now in
          let below : one.rule < length rs = search the_rules in
          let is : rule ≡ get_or rs one.rule rule = search the_rules in
          let at : slice_get sheets.rules.items one.rule ≡ Some rule = ap (λ l. slice_get l one.rule) (sym c.rules-rules.ensures.list) ∙ (slice_get-get_or rs one.rule rule below ∙ ap Some (sym is)) in
          let (list, beside) = slice_get_some ls one.rule (omega (arith, below, ap length c.rules-rules.ensures.list, sheets.paired, sheets.rules.ok, sheets.selectors.ok)) in
          let ps = c.positions-positions.result.now in
          let position = get_or ps one.rule 0 in
          let stands : slice_get sheets.positions.items one.rule ≡ Some position =
          ap (λ l. slice_get l one.rule) (sym c.positions-positions.ensures.list)
          ∙ slice_get-get_or ps one.rule 0 (omega (arith, below, ap length c.rules-rules.ensures.list, c.positions-positions.ensures.paired)) in
          let own = put_at position (placed_rule_of rule list.items) in
          let placed : slice_get (rules_of sheets) one.rule ≡ Some own = rule_at sheets one.rule position rule list stands at beside in
          let ranked : get_or c.ranks-ranks.result.now one.rule 0 ≡ rank_seen sheets.layers rule = ap (λ l. get_or l one.rule 0) (c.ranks-ranks.ensures.list ∙ ap (map (rank_seen sheets.layers)) (sym c.rules-rules.ensures.list)) ∙ (get_or-map (rank_seen sheets.layers) rs one.rule rule 0 below ∙ ap (rank_seen sheets.layers) (sym is)) in
          one_more (rule_declares sources) old _ _ _ _ one (all_matched sheets.layers own one.specificity own.first_index own.declarations) here (declares_at sources own one placed) (ap (λ v. flat_map lent_of v.items) w.list-is ∙ w.in_ok-add_declarations.ensures sheets.layers list.items ranked) c.loop-one.invariant)
      | in_default w ↦ (let past : length rs ≤ one.rule = search the_rules in
          let none : slice_get (rules_of sheets) one.rule ≡ None = no_rule_at sheets one.rule (omega (arith, past, ap length c.rules-rules.ensures.list)) in
          one_more (rule_declares sources) old _ _ _ _ one [] here (declares_none sources one none) (ap (λ v. flat_map lent_of v.items) w.list-is ∙ sym (append-nil old)) c.loop-one.invariant)
    ]

pub returns : goal.returns
returns c =
    none_left (rule_declares (sources_seen c.args.sheets.now)) (flat_map lent_of c.loop-one.list.items) _ (drop c.loop-one.one-index c.args.found.now) (drop_all c.loop-one.one-index c.args.found.now c.loop-one-test.false) c.loop-one.invariant
