-- What a rule map keeps: in each bucket the places of its selectors among the rules.
use Rattle.std.specs.Prelude.{◌≡◌, ℕ, ◌+◌, List, [], ◌∷◌, ◌++◌, map, filter, flat_map, slice_get}
use Rattle.std.specs.Prelude.{true, if◌then◌else◌, Option, Some, option_and_then}
use Rattle.std.specs.List.{AllByRecursion}
use Rattle.std.specs.Option.{option_map_or}
use Rattle.base_model.specs.Text.{Characters}
use Rattle.scene_model.specs.Element.{Element}
use Rattle.selector_model.specs.Selector.{Selector}
use Rattle.selector_model.specs.Holds.{holds}
use Rattle.selector_model.specs.SpecificityOf.{specificity_of}
use Rattle.ancestor_model.specs.Above.{all_counted, ancestor_slots}
use Rattle.rule_map_model.specs.Buckets.{Bucket, same_bucket, bucket_of, looks_at, TellAll}
use Rattle.rule_map_model.specs.Hits.{Hit, hit}

-- a selector, by the numbers of its rule and of itself in it, and the slots of its first ancestor names
pub record Place : Type 0 where
  pub rule : ℕ
  pub selector : ℕ
  pub slots : List ℕ

-- with the bucket that it is in
pub record Placed : Type 0 where
  pub bucket : Bucket
  pub place : Place

-- the selector with these numbers
abbrev pub selector_at : List (List Selector) → ℕ → ℕ → Option Selector
selector_at rules rule selector = option_and_then (λ selectors. slice_get selectors selector) (slice_get rules rule)

-- the places of one bucket, in order
abbrev pub of_bucket : Bucket → List Placed → List Place
of_bucket bucket all = map (λ p. p.place) (filter (λ p. same_bucket bucket p.bucket) all)

module _ (slot : Characters → ℕ) where
  abbrev pub placed : ℕ → ℕ → Selector → Placed
  placed i j selector = record {
    bucket = bucket_of selector;
    place = record { rule = i; selector = j; slots = ancestor_slots slot selector };
  }

  -- the selectors of a rule, from this number on
  abbrev pub placed_in : ℕ → ℕ → List Selector → List Placed
  placed_in i j [] = []
  placed_in i j (selector ∷ rest) = placed i j selector ∷ placed_in i (j + 1) rest

  -- those of rules, from this number on
  abbrev pub placed_from : ℕ → List (List Selector) → List Placed
  placed_from i [] = []
  placed_from i (selectors ∷ rest) = placed_in i 0 selectors ++ placed_from (i + 1) rest

  -- those of all rules that are in a bucket, in order
  abbrev pub places : List (List Selector) → Bucket → List Place
  places rules bucket = of_bucket bucket (placed_from 0 rules)

  -- each bucket has exactly the places of the selectors that are in it, in order
  pub record IsMapOf (rules : List (List Selector)) (in_bucket : Bucket → List Place) : Type 0 where
    pub each : (bucket : Bucket) → in_bucket bucket ≡ places rules bucket

  -- it is that of a selector of the rules
  pub record IsPlaceOf (rules : List (List Selector)) (place : Place) : Type 0 where
    pub selector : Selector
    pub there : selector_at rules place.rule place.selector ≡ Some selector
    pub slots_are : place.slots ≡ ancestor_slots slot selector

-- The pieces are those of the buckets that x looks at: of all, and of no others.
pub record AreLookedAt (doc : List Element) (x : ℕ) (in_bucket : Bucket → List Place) (pieces : List (List Place))
    : Type 0 where
  pub buckets : List Bucket
  pub tell : TellAll doc x buckets
  pub only : AllByRecursion (λ bucket. looks_at doc bucket x ≡ true) buckets
  pub are : pieces ≡ map in_bucket buckets

-- The hits of a place, once the filter of the ancestors of x is asked by its slots: that of its selector where it
-- holds.
abbrev pub hits_of : List Element → ℕ → ℕ → Selector → List Hit
hits_of doc x rule selector = if holds doc selector x then hit rule (specificity_of selector) ∷ [] else []

module _ (counters : List ℕ) (doc : List Element) (x : ℕ) (rules : List (List Selector)) where
  abbrev pub hits_at : Place → List Hit
  hits_at place =
      if all_counted counters place.slots
      then option_map_or (hits_of doc x place.rule) (selector_at rules place.rule place.selector) []
      else []

  -- those of pieces, in order
  abbrev pub hits_in : List (List Place) → List Hit
  hits_in pieces = flat_map (flat_map hits_at) pieces
