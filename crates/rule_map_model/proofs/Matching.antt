-- For `matched_by`: the hits of an element, sorted and folded, are its matching rules.
use Rattle.std.proofs.Common.{◌≡◌, ℕ, suc, ◌+◌, ◌<◌, ◌≤◌, ◌==◌, List, [], ◌∷◌, ◌++◌, map, filter, flat_map, length}
use Rattle.std.proofs.Common.{slice_get, Bool, true, false, cond, Some, None, option_map, if◌then◌else◌, refl, sym, ap, ◌∙◌, subst, arith}
use Rattle.std.specs.Option.{option_map_or}
use Rattle.std.proofs.lemmas.Bool.{eqb-true, eq-eqb}
use Rattle.std.proofs.lemmas.List.{length-map}
use Rattle.std.proofs.lemmas.Option.{same_Some, slice_get-map, slice_get_within}
use Rattle.base_model.specs.Specificity.{Specificity, greater}
use Rattle.layer_model.specs.Order.{Layers}
use Rattle.scene_model.specs.Element.{Element}
use Rattle.selector_model.specs.Selector.{Selector}
use Rattle.selector_model.specs.SpecificityOf.{specificity_of}
use Rattle.selector_model.specs.Holds.{holds}
use Rattle.sheet_model.specs.Sources.{PlacedRule, Sources}
use Rattle.cascade_model.specs.Key.{Matched}
use Rattle.cascade_model.specs.Matching.{with_greater, greatest_by, all_matched, rule_matched, matching_rules}
use Rattle.rule_map_model.specs.Hits.{In, Hit, hit, AreHits, IsRising, folded, matched_by}
use Rattle.rule_map_model.proofs.Greatest.{greatest_after, greatest_in, greatest_same, AreWithin}
use Rattle.rule_map_model.proofs.Folding.{of_rule, by_rules, folded_by_rules}
use Rattle.rule_map_model.proofs.Members.{each_in, in_map, of_map, in_filter, of_filter, plus_none, none_plus, plus_next}

module _ (passes : Selector → Bool) where
  -- the specificities of the selectors that pass
  abbrev passing : List Selector → List Specificity
  passing selectors = map specificity_of (filter passes selectors)

  by_after : (best : Specificity) (selectors : List Selector) → greatest_by passes (Some best) selectors ≡ Some (greatest_after best (passing selectors))
  by_after best [] = refl
  by_after best (s ∷ ss) = by (passes s) (by_after (greater best (specificity_of s)) ss) (by_after best ss)
    where
      by : (b : Bool) → greatest_by passes (Some (greater best (specificity_of s))) ss ≡ Some (greatest_after (greater best (specificity_of s)) (passing ss))
          → greatest_by passes (Some best) ss ≡ Some (greatest_after best (passing ss))
          → greatest_by passes (if b then Some (with_greater (Some best) (specificity_of s)) else Some best) ss
          ≡ Some (greatest_after best (map specificity_of (cond b (s ∷ filter passes ss) (filter passes ss))))
      by true h k = h
      by false h k = k

  by_none : (selectors : List Selector) → greatest_by passes None selectors ≡ greatest_in (passing selectors)
  by_none [] = refl
  by_none (s ∷ ss) = by (passes s) (by_after (specificity_of s) ss) (by_none ss)
    where
      by : (b : Bool) → greatest_by passes (Some (specificity_of s)) ss ≡ Some (greatest_after (specificity_of s) (passing ss)) → greatest_by passes None ss ≡ greatest_in (passing ss)
          → greatest_by passes (if b then Some (with_greater None (specificity_of s)) else None) ss ≡ greatest_in (map specificity_of (cond b (s ∷ filter passes ss) (filter passes ss)))
      by true h k = h
      by false h k = k

  abbrev lists_of : List PlacedRule → List (List Selector)
  lists_of rules = map (λ rule. rule.selectors) rules

  module _ (layers : Layers) (rules : List PlacedRule) (hits : List Hit) (h : AreHits passes (lists_of rules) hits) where
    list_at : (i : ℕ) (rule : PlacedRule) → slice_get rules i ≡ Some rule → slice_get (lists_of rules) i ≡ Some rule.selectors
    list_at i rule e =
        slice_get-map (λ (r : PlacedRule). r.selectors) rules i ∙ ap (option_map (λ (r : PlacedRule). r.selectors)) e

    hits_within : (i : ℕ) (rule : PlacedRule) → slice_get rules i ≡ Some rule → AreWithin (of_rule i hits) (passing rule.selectors)
    hits_within i rule e s m =
        let (g, (j, is)) = of_map (λ (g : Hit). g.specificity) s (filter (λ g. g.rule == i) hits) m in
        let kept = of_filter (λ (g : Hit). g.rule == i) g hits j in
        let (selectors, (at, (selector, (k, (t, spec))))) = h.sound g kept.0 in
        let same : selectors ≡ rule.selectors =
        same_Some selectors rule.selectors (sym at ∙ (ap (slice_get (lists_of rules)) (eqb-true g.rule i kept.1) ∙ list_at i rule e)) in
        subst (λ r. In r (passing rule.selectors)) (sym spec ∙ is)
        (in_map specificity_of selector (filter passes rule.selectors) (in_filter passes selector rule.selectors t (subst (In selector) same k)))

    passing_within : (i : ℕ) (rule : PlacedRule) → slice_get rules i ≡ Some rule → AreWithin (passing rule.selectors) (of_rule i hits)
    passing_within i rule e s m =
        let (selector, (j, is)) = of_map specificity_of s (filter passes rule.selectors) m in
        let kept = of_filter passes selector rule.selectors j in
        let there = h.complete i rule.selectors selector (list_at i rule e) kept.0 kept.1 in
        subst (λ r. In r (of_rule i hits)) is (in_map (λ (g : Hit). g.specificity) (hit i (specificity_of selector)) (filter (λ g. g.rule == i) hits)
        (in_filter (λ (g : Hit). g.rule == i) (hit i (specificity_of selector)) hits (eq-eqb i i refl) there))

    -- the greatest of the hits of a rule
    greatest_at : (i : ℕ) (rule : PlacedRule) → slice_get rules i ≡ Some rule → greatest_in (of_rule i hits) ≡ greatest_by passes None rule.selectors
    greatest_at i rule e =
        greatest_same (of_rule i hits) (passing rule.selectors) (hits_within i rule e) (passing_within i rule e) ∙ sym (by_none rule.selectors)

    abbrev given : ℕ → Specificity → List Matched
    given i specificity = matched_by layers rules (hit i specificity)

    rule_at : (i : ℕ) (rule : PlacedRule) → slice_get rules i ≡ Some rule → option_map_or (given i) (greatest_in (of_rule i hits)) [] ≡ rule_matched layers passes rule
    rule_at i rule e =
        ap (λ o. option_map_or (λ specificity. option_map_or (λ r. all_matched layers r specificity r.first_index r.declarations) o []) (greatest_in (of_rule i hits)) []) e
        ∙ ap (λ o. option_map_or (λ specificity. all_matched layers rule specificity rule.first_index rule.declarations) o []) (greatest_at i rule e)

    rules_from_here : (i : ℕ) (rest : List PlacedRule) → ((j : ℕ) → slice_get rules (i + j) ≡ slice_get rest j)
        → by_rules given i (length rest) hits ≡ flat_map (rule_matched layers passes) rest
    rules_from_here i [] same = refl
    rules_from_here i (rule ∷ rest) same =
        ap (λ l. l ++ by_rules given (i + 1) (length rest) hits) (rule_at i rule (ap (slice_get rules) (plus_none i) ∙ same 0))
        ∙ ap (λ l. rule_matched layers passes rule ++ l) (rules_from_here (i + 1) rest (λ j. ap (slice_get rules) (plus_next i j) ∙ same (suc j)))

    within : (g : Hit) → In g hits → (0 ≤ g.rule) × (g.rule < 0 + length rules)
    within g i =
        let (selectors, (at, rest)) = h.sound g i in
        let l = slice_get_within (lists_of rules) g.rule selectors at in
        (omega arith, omega (arith, l, length-map rules (λ (r : PlacedRule). r.selectors)))

    pub folded_matched : IsRising hits → flat_map (matched_by layers rules) (folded hits) ≡ flat_map (rule_matched layers passes) rules
    folded_matched up =
        folded_by_rules given 0 (length rules) hits up (each_in (λ g. (0 ≤ g.rule) × (g.rule < 0 + length rules)) hits within)
        ∙ rules_from_here 0 rules (λ j. ap (slice_get rules) (none_plus j))

-- with the rules of the sources
pub hits_matching : (doc : List Element) (sources : Sources) (x : ℕ) (hits : List Hit) → AreHits (λ s. holds doc s x) (map (λ rule. rule.selectors) sources.rules) hits → IsRising hits
    → flat_map (matched_by sources.layers sources.rules) (folded hits) ≡ matching_rules doc sources x
unfolding matching_rules
hits_matching doc sources x hits h up = folded_matched (λ s. holds doc s x) sources.layers sources.rules hits h up
