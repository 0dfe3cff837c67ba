-- For `match_element`: the rules of sheets by their places, with their selectors and declarations.
use Rattle.std.proofs.Common.{◌≡◌, ℕ, zero, suc, ◌≤◌, List, [], ◌∷◌, length, map, slice_get, None, Some, refl, ap, ◌∙◌, arith}
use Rattle.std.specs.Prelude.{Vec}
use Rattle.std.proofs.lemmas.Option.{same_Some, slice_get_past}
use Rattle.std.specs.declared.alloc.Global.{Global}
use Rattle.selector_types.specs.View.{selector_of}
use Rattle.selector_types.specs.declared.selector.Selector.{Selector as Chosen}
use Rattle.sheet_set.specs.declared.sheet_rule.SheetRule.{SheetRule}
use Rattle.sheet_set.specs.declared.sheets.Sheets.{Sheets}
use Rattle.sheet_set.specs.View.{placed_at, placed_rule_of, put_at, rules_of, rules_with, sources_seen}
use Rattle.std.specs.Option.{option_map_or}
use Rattle.sheet_model.specs.Sources.{PlacedRule, Sources}
use Rattle.cascade_model.specs.Matching.{all_matched}
use Rattle.rule_maps.specs.RulesView.{rules_seen}
use Rattle.element_styler.specs.Prepared.{lists_of}
use Rattle.element_styler.specs.MatchedRules.{rule_declares}
use Rattle.element_styler.specs.declared.matched_rules.MatchedRule.{MatchedRule}

-- the rule at an index
with_at : (rules : List SheetRule) (lists : List (Vec Chosen Global)) (i : ℕ) (rule : SheetRule) (list : Vec Chosen Global) → slice_get rules i ≡ Some rule → slice_get lists i ≡ Some list → slice_get (rules_with rules lists) i ≡ Some (placed_rule_of rule list.items)
with_at [] lists i rule list at here = absurd (cc)
with_at (r ∷ rules) [] i rule list at here = absurd (cc)
with_at (r ∷ rules) (l ∷ lists) zero rule list at here =
    ap (λ x. Some (placed_rule_of x l.items)) (same_Some r rule at) ∙ ap (λ (v : Vec Chosen Global). Some (placed_rule_of rule v.items)) (same_Some l list here)
with_at (r ∷ rules) (l ∷ lists) (suc i) rule list at here = with_at rules lists i rule list at here

put_there : (positions : List ℕ) (rules : List PlacedRule) (i position : ℕ) (rule : PlacedRule) → slice_get positions i ≡ Some position → slice_get rules i ≡ Some rule → slice_get (placed_at positions rules) i ≡ Some (put_at position rule)
put_there [] rules i position rule place at = absurd (cc)
put_there (p ∷ positions) [] i position rule place at = absurd (cc)
put_there (p ∷ positions) (r ∷ rules) zero position rule place at =
    ap (λ x. Some (put_at x r)) (same_Some p position place) ∙ ap (λ x. Some (put_at position x)) (same_Some r rule at)
put_there (p ∷ positions) (r ∷ rules) (suc i) position rule place at = put_there positions rules i position rule place at

pub rule_at : (sheets : Sheets) (i position : ℕ) (rule : SheetRule) (list : Vec Chosen Global) → slice_get sheets.positions.items i ≡ Some position → slice_get sheets.rules.items i ≡ Some rule → slice_get sheets.selectors.items i ≡ Some list
    → slice_get (rules_of sheets) i ≡ Some (put_at position (placed_rule_of rule list.items))
rule_at sheets i position rule list place at here =
    put_there sheets.positions.items (rules_with sheets.rules.items sheets.selectors.items) i position (placed_rule_of rule list.items) place
    (with_at sheets.rules.items sheets.selectors.items i rule list at here)

length-rules_with : (rules : List SheetRule) (lists : List (Vec Chosen Global)) → length lists ≡ length rules → length (rules_with rules lists) ≡ length lists
length-rules_with [] [] same = refl
length-rules_with [] (l ∷ lists) same = absurd (omega (arith, same))
length-rules_with (r ∷ rules) [] same = absurd (omega (arith, same))
length-rules_with (r ∷ rules) (l ∷ lists) same =
    let rest : length (rules_with rules lists) ≡ length lists = length-rules_with rules lists (omega (arith, same)) in omega (arith, rest)

length-placed_at : (positions : List ℕ) (rules : List PlacedRule) → length positions ≡ length rules → length (placed_at positions rules) ≡ length rules
length-placed_at [] [] same = refl
length-placed_at [] (r ∷ rules) same = absurd (omega (arith, same))
length-placed_at (p ∷ positions) [] same = absurd (omega (arith, same))
length-placed_at (p ∷ positions) (r ∷ rules) same = ap suc (length-placed_at positions rules (omega (arith, same)))

-- there are as many as lists of selectors
module _ (sheets : Sheets) where
  with_long : length (rules_with sheets.rules.items sheets.selectors.items) ≡ length sheets.selectors.items
  with_long =
      length-rules_with sheets.rules.items sheets.selectors.items (omega (arith, sheets.paired, sheets.rules.ok, sheets.selectors.ok))

  placed_long : length sheets.positions.items ≡ length (rules_with sheets.rules.items sheets.selectors.items)
  placed_long =
      omega (arith, with_long, sheets.paired, sheets.placed, sheets.rules.ok, sheets.selectors.ok, sheets.positions.ok)

  pub rules_long : length (rules_of sheets) ≡ length sheets.selectors.items
  rules_long =
      length-placed_at sheets.positions.items (rules_with sheets.rules.items sheets.selectors.items) placed_long ∙ with_long

  -- there is none where there is no rule
  pub no_rule_at : (i : ℕ) → length sheets.rules.items ≤ i → slice_get (rules_of sheets) i ≡ None
  no_rule_at i past =
      slice_get_past (rules_of sheets) i (omega (arith, past, rules_long, sheets.paired, sheets.rules.ok, sheets.selectors.ok))

-- the selectors of the rules are those of the lists
lists_with : (rules : List SheetRule) (lists : List (Vec Chosen Global)) → length lists ≡ length rules → map (λ rule. rule.selectors) (rules_with rules lists) ≡ rules_seen lists
lists_with [] [] same = refl
lists_with [] (l ∷ lists) same = absurd (omega (arith, same))
lists_with (r ∷ rules) [] same = absurd (omega (arith, same))
lists_with (r ∷ rules) (l ∷ lists) same =
    ap (λ rest. map selector_of l.items ∷ rest) (lists_with rules lists (omega (arith, same)))

lists_placed : (positions : List ℕ) (rules : List PlacedRule) → length positions ≡ length rules
    → map (λ rule. rule.selectors) (placed_at positions rules) ≡ map (λ rule. rule.selectors) rules
lists_placed [] [] same = refl
lists_placed [] (r ∷ rules) same = absurd (omega (arith, same))
lists_placed (p ∷ positions) [] same = absurd (omega (arith, same))
lists_placed (p ∷ positions) (r ∷ rules) same =
    ap (λ rest. r.selectors ∷ rest) (lists_placed positions rules (omega (arith, same)))

pub lists_seen : (sheets : Sheets) → lists_of (sources_seen sheets) ≡ rules_seen sheets.selectors.items
lists_seen sheets =
    lists_placed sheets.positions.items (rules_with sheets.rules.items sheets.selectors.items) (placed_long sheets)
    ∙ lists_with sheets.rules.items sheets.selectors.items (omega (arith, sheets.paired, sheets.rules.ok, sheets.selectors.ok))

-- what a rule declares that is found by its place
pub declares_at : (sources : Sources) (rule : PlacedRule) (one : MatchedRule) → slice_get sources.rules one.rule ≡ Some rule → rule_declares sources one ≡ all_matched sources.layers rule one.specificity rule.first_index rule.declarations
declares_at sources rule one at =
    ap (λ o. option_map_or (λ (r : PlacedRule). all_matched sources.layers r one.specificity r.first_index r.declarations) o []) at

pub declares_none : (sources : Sources) (one : MatchedRule) → slice_get sources.rules one.rule ≡ None → rule_declares sources one ≡ []
declares_none sources one at =
    ap (λ o. option_map_or (λ (r : PlacedRule). all_matched sources.layers r one.specificity r.first_index r.declarations) o []) at
