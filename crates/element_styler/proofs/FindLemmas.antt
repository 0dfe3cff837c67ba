-- For `matching_rules`: what is found in the map of the rules, sorted and folded, declares what matches.
use Rattle.std.proofs.Common.{◌≡◌, ℕ, List, map, flat_map, ap, sym, subst, ◌∙◌, refl, [], ◌∷◌, ◌++◌}
use Rattle.std.specs.List.Sorted.{IsNonDecreasingBy, IsPermutation}
use Rattle.std.proofs.lemmas.List.Sorted.{IsPermutation-map}
use Rattle.scene_model.specs.Element.{Element}
use Rattle.selector_model.specs.Selector.{Selector}
use Rattle.sheet_model.specs.Sources.{Sources}
use Rattle.cascade_model.specs.Matching.{matching_rules}
use Rattle.ancestor_filter.specs.Names.{names_of, slot}
use Rattle.ancestor_filter.proofs.NameLemmas.{names_all, slot_within}
use Rattle.rule_map_model.specs.Hits.{folded, matched_by}
use Rattle.rule_map_model.specs.Places.{hits_in}
use Rattle.rule_map_model.proofs.PlaceLemmas.{places_matching}
use Rattle.rule_maps.specs.RulesView.{rules_seen}
use Rattle.rule_maps.specs.View.{in_bucket}
use Rattle.sheet_set.specs.View.{sources_seen}
use Rattle.element_styler.specs.Finding.{AreFound, CanFind}
use Rattle.element_styler.specs.MatchedRules.{declarations_of, hit_seen, rule_declares}
use Rattle.element_styler.specs.Prepared.{IsMapOf, IsPrepared, lists_of}
use Rattle.sheet_set.specs.declared.sheets.Sheets.{Sheets}
use Rattle.element_styler.specs.declared.finder.Finder.{Finder}
use Rattle.element_styler.specs.declared.prepared.Prepared.{Prepared}
use Rattle.element_styler.specs.declared.matched_rules.MatchedRule.{MatchedRule}
use Rattle.element_styler.proofs.MatchLemmas.{lists_seen}
use Rattle.element_styler.proofs.Rising.{rising, rule_in}

-- what rules declare, as hits
declares_hits : (sources : Sources) (found : List MatchedRule) → declarations_of sources found ≡ flat_map (matched_by sources.layers sources.rules) (map hit_seen found)
declares_hits sources [] = refl
declares_hits sources (m ∷ found) = ap (λ l. rule_declares sources m ++ l) (declares_hits sources found)

module _ (finder : Finder) (x : ℕ) where
  abbrev doc : List Element
  doc = finder.doc.now.elements

  abbrev sources : Sources
  sources = sources_seen finder.sheets.now

  abbrev lists : List (List Selector)
  lists = rules_seen finder.sheets.now.selectors.items

  pub folded_matching : (hits sorted found : List MatchedRule) → CanFind finder x → AreFound finder x hits → IsPermutation hits sorted → IsNonDecreasingBy rule_in sorted
      → map hit_seen found ≡ folded (map hit_seen sorted) → declarations_of sources found ≡ matching_rules doc sources x
  folded_matching hits sorted found can are permuted up is =
      let same : lists_of sources ≡ lists = lists_seen finder.sheets.now in
      let filter = finder.filter.now in
      let mapped : IsMapOf (lists_of sources) finder.map.now = subst (λ l. IsMapOf l finder.map.now) (sym same) can.map in
      let here : IsPermutation (hits_in filter doc x (lists_of sources) are.pieces) (map hit_seen sorted) =
      subst (λ l. IsPermutation (hits_in filter doc x l are.pieces) (map hit_seen sorted)) (sym same)
      (subst (λ l. IsPermutation l (map hit_seen sorted)) are.are (IsPermutation-map hit_seen hits sorted permuted)) in
      declares_hits sources found
      ∙ (ap (flat_map (matched_by sources.layers sources.rules)) is
      ∙ places_matching doc x slot slot_within (names_of doc) (names_all finder.doc.now) are.valid filter can.above sources (in_bucket finder.map.now) are.pieces
      (map hit_seen sorted) mapped are.looked here (rising sorted up))

-- what is made ready of the sheets is all that finding asks for
pub is_ready : (sheets : Sheets) (prepared : Prepared) → IsPrepared (sources_seen sheets) prepared → IsMapOf (rules_seen sheets.selectors.items) prepared.map
is_ready sheets prepared ready = subst (λ l. IsMapOf l prepared.map) (lists_seen sheets) ready.map
