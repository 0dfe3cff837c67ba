-- For `candidates`: the rules that are none give nothing.
use Rattle.std.proofs.Common.{◌≡◌, ℕ, suc, ◌+◌, List, [], ◌∷◌, ◌++◌, map, flat_map, slice_get, Bool, true, false}
use Rattle.std.proofs.Common.{Option, Some, None, if◌then◌else◌, refl, sym, ap, ◌∙◌}
use Rattle.std.specs.Option.{option_map_or}
use Rattle.std.proofs.lemmas.Bool.{or_parts}
use Rattle.base_model.specs.Text.{Characters}
use Rattle.layer_model.specs.Order.{Layers}
use Rattle.scene_model.specs.Element.{Element}
use Rattle.selector_model.specs.Selector.{Selector}
use Rattle.selector_model.specs.SpecificityOf.{specificity_of}
use Rattle.selector_model.specs.Key.{Key, id_key, class_key, type_key, any_key, key_of}
use Rattle.selector_model.specs.Bears.{bears}
use Rattle.selector_model.specs.Holds.{holds}
use Rattle.selector_model.proofs.KeyLemmas.{not_borne}
use Rattle.sheet_model.specs.Sources.{PlacedRule, Sources}
use Rattle.cascade_model.specs.Key.{Matched}
use Rattle.cascade_model.specs.Matching.{with_greater, greatest_by, all_matched, rule_matched, matching_rules}
use Rattle.ancestor_model.specs.Above.{subject_of}
use Rattle.rule_map_model.specs.Candidates.{bears_some, candidates_from, candidates}
use Rattle.rule_map_model.specs.Buckets.{Bucket, of_attribute, bucket_by, bucket_of, first_attribute, looks_at}
use Rattle.rule_map_model.proofs.Members.{plus_none, none_plus, plus_next}

-- x bears the key of a selector: it looks at its bucket, or that is one by an attribute
abbrev pub bears_bucket : List Element → Bucket → ℕ → Bool
bears_bucket doc (of_attribute name) x = true
bears_bucket doc bucket x = looks_at doc bucket x

module _ (doc : List Element) (x : ℕ) where
  by_bucket : (key : Key) (o : Option Characters) → bears doc key x ≡ bears_bucket doc (bucket_by key o) x
  by_bucket (id_key name) o = refl
  by_bucket (class_key class) o = refl
  by_bucket (type_key tag) o = refl
  by_bucket any_key None = refl
  by_bucket any_key (Some name) = refl

  pub bears_by_bucket : (selector : Selector) → bears doc (key_of selector) x ≡ bears_bucket doc (bucket_of selector) x
  bears_by_bucket selector = by_bucket (key_of selector) (first_attribute (subject_of selector))

  abbrev passes : Selector → Bool
  passes selector = holds doc selector x

  none_greatest : (selectors : List Selector) → bears_some doc x selectors ≡ false → greatest_by passes None selectors ≡ None
  none_greatest [] h = refl
  none_greatest (s ∷ ss) h =
      let parts = or_parts (bears doc (key_of s) x) (bears_some doc x ss) h in
      ap (λ b. greatest_by passes (if b then Some (with_greater None (specificity_of s)) else None) ss) (not_borne doc x s parts.0)
      ∙ none_greatest ss parts.1

  module _ (layers : Layers) where
    abbrev lists_of : List PlacedRule → List (List Selector)
    lists_of rules = map (λ rule. rule.selectors) rules

    abbrev matched_at : List PlacedRule → ℕ → List Matched
    matched_at rules i = option_map_or (rule_matched layers passes) (slice_get rules i) []

    candidates_here : (all : List PlacedRule) (i : ℕ) (rest : List PlacedRule) → ((j : ℕ) → slice_get all (i + j) ≡ slice_get rest j)
        → flat_map (matched_at all) (candidates_from doc x i (lists_of rest)) ≡ flat_map (rule_matched layers passes) rest
    candidates_here all i [] same = refl
    candidates_here all i (rule ∷ rest) same =
        by (bears_some doc x rule.selectors) refl (candidates_here all (i + 1) rest (λ j. ap (slice_get all) (plus_next i j) ∙ same (suc j)))
      where
        by : (b : Bool) → bears_some doc x rule.selectors ≡ b
            → flat_map (matched_at all) (candidates_from doc x (i + 1) (lists_of rest)) ≡ flat_map (rule_matched layers passes) rest
            → flat_map (matched_at all)
            (if b then i ∷ candidates_from doc x (i + 1) (lists_of rest) else candidates_from doc x (i + 1) (lists_of rest))
            ≡ rule_matched layers passes rule ++ flat_map (rule_matched layers passes) rest
        by true e h =
            ap (λ o. option_map_or (rule_matched layers passes) o [] ++ flat_map (matched_at all) (candidates_from doc x (i + 1) (lists_of rest)))
            (ap (slice_get all) (plus_none i) ∙ same 0)
            ∙ ap (λ l. rule_matched layers passes rule ++ l) h
        by false e h =
            h ∙ ap (λ o.
            option_map_or (λ specificity. all_matched layers rule specificity rule.first_index rule.declarations) o []
            ++ flat_map (rule_matched layers passes) rest)
            (sym (none_greatest rule.selectors e))

-- the matching rules are among the candidates
pub candidates_matching : (doc : List Element) (sources : Sources) (x : ℕ)
    → flat_map (λ i. option_map_or (rule_matched sources.layers (λ s. holds doc s x)) (slice_get sources.rules i) [])
    (candidates doc x (map (λ rule. rule.selectors) sources.rules))
    ≡ matching_rules doc sources x
unfolding matching_rules
candidates_matching doc sources x =
    candidates_here doc x sources.layers sources.rules 0 sources.rules (λ j. ap (slice_get sources.rules) (none_plus j))
