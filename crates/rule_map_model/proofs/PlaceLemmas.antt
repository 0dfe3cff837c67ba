-- For `AreLookedAt`: the places in the pieces are those of selectors, and what is tested there are the hits.
use Rattle.std.proofs.Common.{◌≡◌, ℕ, suc, ◌+◌, ◌<◌, List, [], ◌∷◌, ◌++◌, map, filter, flat_map, slice_get, Bool, true, false, cond, ◌&&◌}
use Rattle.std.proofs.Common.{Some, option_and_then, if◌then◌else◌, refl, sym, ap, ap₂, ◌∙◌, subst}
use Rattle.std.specs.List.{AllByRecursion}
use Rattle.std.specs.List.Sorted.{IsPermutation}
use Rattle.std.specs.Option.{option_map_or}
use Rattle.std.proofs.lemmas.List.{map-append}
use Rattle.std.proofs.lemmas.List.Concat.{flat_map-append}
use Rattle.std.proofs.lemmas.List.Elements.{filter-append}
use Rattle.base_model.specs.Text.{Characters}
use Rattle.base_model.proofs.Lists.{each-map, each-append}
use Rattle.scene_model.specs.Element.{Element}
use Rattle.scene_model.specs.Ancestors.{ancestors}
use Rattle.scene_model.specs.Valid.{IsValid}
use Rattle.scene_model.proofs.Lists.{each-filter}
use Rattle.selector_model.specs.Selector.{Selector}
use Rattle.selector_model.specs.Holds.{holds}
use Rattle.selector_model.specs.SpecificityOf.{specificity_of}
use Rattle.sheet_model.specs.Sources.{Sources}
use Rattle.cascade_model.specs.Matching.{matching_rules}
use Rattle.ancestor_model.specs.Above.{all_counted, NameAll, ancestor_slots}
use Rattle.ancestor_model.specs.Counts.{slot_count, StandsFor}
use Rattle.rule_map_model.specs.Buckets.{Bucket, same_bucket, bucket_of, Pair, pair, pairs_from, pairs_of, group}
use Rattle.rule_map_model.specs.Hits.{Hit, hit, hit_of, tested, found_in, IsRising, folded, matched_by}
use Rattle.rule_map_model.specs.Places.{Place, Placed, selector_at, of_bucket, placed, placed_in, placed_from, places, IsMapOf, IsPlaceOf, AreLookedAt}
use Rattle.rule_map_model.specs.Places.{hits_of, hits_at, hits_in}
use Rattle.rule_map_model.proofs.Tested.{map_matching}
use Rattle.rule_map_model.proofs.Members.{plus_none, none_plus, plus_next}

-- the places of two lists one after another
pub of_bucket-append : (bucket : Bucket) (one other : List Placed) → of_bucket bucket (one ++ other) ≡ of_bucket bucket one ++ of_bucket bucket other
of_bucket-append bucket one other =
    ap (map (λ (p : Placed). p.place)) (filter-append (λ (p : Placed). same_bucket bucket p.bucket) one other)
    ∙ map-append (λ (p : Placed). p.place) (filter (λ (p : Placed). same_bucket bucket p.bucket) one) (filter (λ (p : Placed). same_bucket bucket p.bucket) other)

module _ (slot : Characters → ℕ) (all : List (List Selector)) where
  -- the selectors from one number on
  abbrev AreFrom : ℕ → ℕ → List Selector → Type 0
  AreFrom i j rest = (k : ℕ) → selector_at all i (j + k) ≡ slice_get rest k

  abbrev RulesFrom : ℕ → List (List Selector) → Type 0
  RulesFrom i rest = (k : ℕ) → slice_get all (i + k) ≡ slice_get rest k

  first_is : (i j : ℕ) (s : Selector) (rest : List Selector) → AreFrom i j (s ∷ rest) → selector_at all i j ≡ Some s
  first_is i j s rest same = ap (selector_at all i) (plus_none j) ∙ same 0

  rest_are : (i j : ℕ) (s : Selector) (rest : List Selector) → AreFrom i j (s ∷ rest) → AreFrom i (j + 1) rest
  rest_are i j s rest same k = ap (selector_at all i) (plus_next j k) ∙ same (suc k)

  of_rule : (i : ℕ) (selectors : List Selector) (rest : List (List Selector)) → RulesFrom i (selectors ∷ rest) → AreFrom i 0 selectors
  of_rule i selectors rest same k =
      ap (λ o. option_and_then (λ (ss : List Selector). slice_get ss (0 + k)) o) (ap (slice_get all) (plus_none i) ∙ same 0)
      ∙ ap (slice_get selectors) (none_plus k)

  later : (i : ℕ) (selectors : List Selector) (rest : List (List Selector)) → RulesFrom i (selectors ∷ rest) → RulesFrom (i + 1) rest
  later i selectors rest same k = ap (slice_get all) (plus_next i k) ∙ same (suc k)

  -- each place is that of a selector

  abbrev IsPlaced : Placed → Type 0
  IsPlaced p = IsPlaceOf slot all p.place

  in_rule_placed : (i j : ℕ) (rest : List Selector) → AreFrom i j rest → AllByRecursion IsPlaced (placed_in slot i j rest)
  in_rule_placed i j [] same = tt
  in_rule_placed i j (s ∷ rest) same = (
    record { selector = s; there = first_is i j s rest same; slots_are = refl },
    in_rule_placed i (j + 1) rest (rest_are i j s rest same),
  )

  all_placed : (i : ℕ) (rest : List (List Selector)) → RulesFrom i rest → AllByRecursion IsPlaced (placed_from slot i rest)
  all_placed i [] same = tt
  all_placed i (selectors ∷ rest) same =
      each-append IsPlaced (placed_in slot i 0 selectors) (placed_from slot (i + 1) rest) (in_rule_placed i 0 selectors (of_rule i selectors rest same))
      (all_placed (i + 1) rest (later i selectors rest same))

  bucket_placed : (bucket : Bucket) → AllByRecursion (IsPlaceOf slot all) (places slot all bucket)
  bucket_placed bucket =
      let ps : List Placed = filter (λ (p : Placed). same_bucket bucket p.bucket) (placed_from slot 0 all) in
      each-map (IsPlaceOf slot all) (λ (p : Placed). p.place) ps
      (each-filter IsPlaced IsPlaced (λ (p : Placed). same_bucket bucket p.bucket) (λ p e h. h) (placed_from slot 0 all)
      (all_placed 0 all (λ k. ap (slice_get all) (none_plus k))))

  -- each place of the pieces is that of a selector of the rules
  pub each_piece : (doc : List Element) (x : ℕ) (in_bucket : Bucket → List Place) (pieces : List (List Place)) → IsMapOf slot all in_bucket
      → AreLookedAt doc x in_bucket pieces → AllByRecursion (AllByRecursion (IsPlaceOf slot all)) pieces
  each_piece doc x in_bucket pieces is looked =
      subst (AllByRecursion (AllByRecursion (IsPlaceOf slot all))) (sym looked.are) (each looked.buckets)
    where
      each : (buckets : List Bucket) → AllByRecursion (AllByRecursion (IsPlaceOf slot all)) (map in_bucket buckets)
      each [] = tt
      each (bucket ∷ buckets) =
          (subst (AllByRecursion (IsPlaceOf slot all)) (sym (is.each bucket)) (bucket_placed bucket), each buckets)

  -- what is tested at the places

  module _ (counters : List ℕ) (doc : List Element) (x : ℕ) where
    abbrev passes : Selector → Bool
    passes selector = tested slot counters doc x selector

    abbrev passing : Pair → Bool
    passing p = passes p.selector

    abbrev found_at : Place → List Hit
    found_at place = hits_at counters doc x all place

    hit_at : (i j : ℕ) (s : Selector) → selector_at all i j ≡ Some s
        → found_at (placed slot i j s).place ≡ (if passes s then hit i (specificity_of s) ∷ [] else [])
    hit_at i j s e = by (all_counted counters (ancestor_slots slot s))
      where
        by : (b : Bool) → (if b then option_map_or (hits_of doc x i) (selector_at all i j) [] else [])
            ≡ (if b && holds doc s x then hit i (specificity_of s) ∷ [] else [])
        by true = ap (λ o. option_map_or (hits_of doc x i) o []) e
        by false = refl

    joined_hit : (c : Bool) (h : Hit) (p : Pair) (others : List Pair) → hit_of p ≡ h
        → (if c then h ∷ [] else []) ++ map hit_of others ≡ map hit_of (cond c (p ∷ others) others)
    joined_hit true h p others e = ap (λ g. g ∷ map hit_of others) (sym e)
    joined_hit false h p others e = refl

    step : (b : Bool) (i j : ℕ) (s : Selector) (rest : List Placed) (others : List Pair) → selector_at all i j ≡ Some s
        → flat_map found_at (map (λ (q : Placed). q.place) rest) ≡ map hit_of (filter passing others)
        → flat_map found_at (map (λ (q : Placed). q.place) (cond b (placed slot i j s ∷ rest) rest))
        ≡ map hit_of (filter passing (cond b (pair i s ∷ others) others))
    step true i j s rest others e h =
        ap₂ ◌++◌ (hit_at i j s e) h ∙ joined_hit (passes s) (hit i (specificity_of s)) (pair i s) (filter passing others) refl
    step false i j s rest others e h = h

    rule_hits : (bucket : Bucket) (i j : ℕ) (rest : List Selector) → AreFrom i j rest
        → flat_map found_at (of_bucket bucket (placed_in slot i j rest)) ≡ map hit_of (filter passing (group bucket (map (pair i) rest)))
    rule_hits bucket i j [] same = refl
    rule_hits bucket i j (s ∷ rest) same =
        step (same_bucket bucket (bucket_of s)) i j s (filter (λ (q : Placed). same_bucket bucket q.bucket) (placed_in slot i (j + 1) rest))
        (group bucket (map (pair i) rest)) (first_is i j s rest same) (rule_hits bucket i (j + 1) rest (rest_are i j s rest same))

    bucket_hits : (bucket : Bucket) (i : ℕ) (rest : List (List Selector)) → RulesFrom i rest
        → flat_map found_at (of_bucket bucket (placed_from slot i rest)) ≡ map hit_of (filter passing (group bucket (pairs_from i rest)))
    bucket_hits bucket i [] same = refl
    bucket_hits bucket i (selectors ∷ rest) same =
        ap (flat_map found_at) (of_bucket-append bucket (placed_in slot i 0 selectors) (placed_from slot (i + 1) rest))
        ∙ (flat_map-append found_at (of_bucket bucket (placed_in slot i 0 selectors)) (of_bucket bucket (placed_from slot (i + 1) rest))
        ∙ (ap₂ ◌++◌ (rule_hits bucket i 0 selectors (of_rule i selectors rest same)) (bucket_hits bucket (i + 1) rest (later i selectors rest same))
        ∙ (sym (map-append hit_of (filter passing firsts) (filter passing others))
        ∙ (ap (map hit_of) (sym (filter-append passing firsts others))
        ∙ ap (λ ps. map hit_of (filter passing ps)) (sym (filter-append (λ (p : Pair). same_bucket bucket (bucket_of p.selector)) (map (pair i) selectors) (pairs_from (i + 1) rest)))))))
      where
        firsts : List Pair
        firsts = group bucket (map (pair i) selectors)

        others : List Pair
        others = group bucket (pairs_from (i + 1) rest)

    -- what passes at the places of buckets is what is found in them
    pub piece_hits : (in_bucket : Bucket → List Place) (buckets : List Bucket) → IsMapOf slot all in_bucket
        → hits_in counters doc x all (map in_bucket buckets) ≡ found_in passes (pairs_of all) buckets
    piece_hits in_bucket [] is = refl
    piece_hits in_bucket (bucket ∷ buckets) is =
        ap₂ ◌++◌ (ap (flat_map found_at) (is.each bucket) ∙ bucket_hits bucket 0 all (λ k. ap (slice_get all) (none_plus k)))
        (piece_hits in_bucket buckets is)

-- What passes at the places of the pieces, sorted by rule and folded, are the matching rules.
module _ (doc : List Element) (x : ℕ) (slot : Characters → ℕ) (within : (name : Characters) → slot name < slot_count)
    (names_of : ℕ → List Characters) (all : NameAll doc names_of) (v : IsValid doc) (counters : List ℕ)
    (stands : StandsFor slot names_of (ancestors doc x) counters) where
  pub places_matching : (sources : Sources) (in_bucket : Bucket → List Place) (pieces : List (List Place)) (hits : List Hit)
      → IsMapOf slot (map (λ rule. rule.selectors) sources.rules) in_bucket → AreLookedAt doc x in_bucket pieces
      → IsPermutation (hits_in counters doc x (map (λ rule. rule.selectors) sources.rules) pieces) hits → IsRising hits
      → flat_map (matched_by sources.layers sources.rules) (folded hits) ≡ matching_rules doc sources x
  places_matching sources in_bucket pieces hits is looked permuted up =
      let rules : List (List Selector) = map (λ rule. rule.selectors) sources.rules in
      map_matching doc x slot within names_of all v counters stands sources looked.buckets hits looked.tell
      (subst (λ (found : List Hit). IsPermutation found hits) (ap (hits_in counters doc x rules) looked.are ∙ piece_hits slot rules counters doc x in_bucket looked.buckets is) permuted)
      up
