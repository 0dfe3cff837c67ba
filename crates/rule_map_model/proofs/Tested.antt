-- What passes the filter of the ancestors first, sorted and folded, is the matching rules.
use Rattle.std.proofs.Common.{◌≡◌, ℕ, ◌<◌, List, map, flat_map, Bool, true, false, ◌&&◌, refl, sym, ap, subst}
use Rattle.std.specs.List.Sorted.{IsPermutation}
use Rattle.base_model.specs.Text.{Characters}
use Rattle.base_model.proofs.Lists.{each_any}
use Rattle.scene_model.specs.Element.{Element}
use Rattle.scene_model.specs.Ancestors.{ancestors}
use Rattle.scene_model.specs.Valid.{IsValid}
use Rattle.scene_model.proofs.Lists.{filter_same, flat_map_same}
use Rattle.selector_model.specs.Selector.{Selector}
use Rattle.selector_model.specs.Holds.{holds}
use Rattle.sheet_model.specs.Sources.{Sources}
use Rattle.cascade_model.specs.Matching.{matching_rules}
use Rattle.ancestor_model.specs.Above.{all_counted, NameAll, ancestor_slots}
use Rattle.ancestor_model.specs.Counts.{slot_count, StandsFor}
use Rattle.ancestor_model.proofs.FilterLemmas.{rejected}
use Rattle.rule_map_model.specs.Buckets.{Bucket, Pair, pairs_of, group, TellAll}
use Rattle.rule_map_model.specs.Hits.{Hit, hit_of, tested, found_in, AreHits, IsRising, folded, matched_by}
use Rattle.rule_map_model.proofs.FoundLemmas.{found_hits}
use Rattle.rule_map_model.proofs.Matching.{hits_matching}
use Rattle.rule_map_model.proofs.Sorting.{hits_permuted}

module _ (doc : List Element) (x : ℕ) (slot : Characters → ℕ) (within : (name : Characters) → slot name < slot_count) (names_of : ℕ → List Characters) (all : NameAll doc names_of)
    (v : IsValid doc) (counters : List ℕ) (stands : StandsFor slot names_of (ancestors doc x) counters) where
  abbrev passes : Selector → Bool
  passes selector = tested slot counters doc x selector

  -- the filter refuses only what does not hold
  pub tested_same : (selector : Selector) → passes selector ≡ holds doc selector x
  tested_same selector = by (all_counted counters (ancestor_slots slot selector)) refl
    where
      by : (b : Bool) → all_counted counters (ancestor_slots slot selector) ≡ b → (b && holds doc selector x) ≡ holds doc selector x
      by true e = refl
      by false e = sym (rejected slot within doc names_of all v selector x counters stands e)

  found_same : (pairs : List Pair) (buckets : List Bucket) → found_in passes pairs buckets ≡ found_in (λ s. holds doc s x) pairs buckets
  found_same pairs buckets =
      flat_map_same _ _ buckets (each_any _ (λ bucket. ap (map hit_of)
      (filter_same (λ (p : Pair). passes p.selector) (λ (p : Pair). holds doc p.selector x) (group bucket pairs) (each_any _ (λ p. tested_same p.selector) (group bucket pairs)))) buckets)

  -- What passes in buckets that tell all, sorted and folded, are the matching rules.
  pub map_matching : (sources : Sources) (buckets : List Bucket) (hits : List Hit) → TellAll doc x buckets
      → IsPermutation (found_in passes (pairs_of (map (λ rule. rule.selectors) sources.rules)) buckets) hits → IsRising hits
      → flat_map (matched_by sources.layers sources.rules) (folded hits) ≡ matching_rules doc sources x
  map_matching sources buckets hits tell permuted up =
      let lists : List (List Selector) = map (λ rule. rule.selectors) sources.rules in
      let found : AreHits (λ s. holds doc s x) lists (found_in passes (pairs_of lists) buckets) =
      subst (AreHits (λ s. holds doc s x) lists) (sym (found_same (pairs_of lists) buckets)) (found_hits doc x lists buckets tell) in
      hits_matching doc sources x hits (hits_permuted (λ s. holds doc s x) lists _ hits permuted found) up
