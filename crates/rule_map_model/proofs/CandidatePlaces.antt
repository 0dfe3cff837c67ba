-- For `candidates`: the rules of the places that x looks at, and of those in buckets by attributes, are the candidates.
use Rattle.std.proofs.Common.{◌≡◌, ◌⊎◌, ℕ, ◌+◌, ◌<◌, ◌≤◌, List, [], ◌∷◌, ◌++◌, map, filter, flat_map, ◌||◌}
use Rattle.std.proofs.Common.{Bool, true, false, if◌then◌else◌, refl, sym, ap, ◌∙◌, subst, arith, inl, inr}
use Rattle.std.specs.List.{AllByRecursion}
use Rattle.std.proofs.lemmas.Bool.{false≢true, or_left, or_right}
use Rattle.base_model.specs.Text.{Characters}
use Rattle.base_model.proofs.Lists.{each_weaker}
use Rattle.scene_model.specs.Element.{Element}
use Rattle.selector_model.specs.Selector.{Selector}
use Rattle.selector_model.specs.Key.{key_of}
use Rattle.selector_model.specs.Bears.{bears}
use Rattle.rule_map_model.specs.Candidates.{bears_some, candidates_from, candidates}
use Rattle.rule_map_model.specs.Buckets.{Bucket, of_id, of_class, of_type, of_attribute, of_any, same_bucket, looks_at}
use Rattle.rule_map_model.specs.Hits.{In}
use Rattle.rule_map_model.specs.Places.{Place, Placed, placed, placed_in, placed_from, IsMapOf, AreLookedAt}
use Rattle.rule_map_model.proofs.CandidateLemmas.{bears_bucket, bears_by_bucket}
use Rattle.rule_map_model.proofs.FoundLemmas.{bucket_told, bucket_same}
use Rattle.rule_map_model.proofs.Members.{in_left, in_right, in_either, in_filter, of_filter, one_of, in_map, of_map, in_joined, of_joined, of_each}

-- the places are those that are in some bucket by an attribute
pub record AreOfAttributes (in_bucket : Bucket → List Place) (others : List Place) : Type 0 where
  pub sound : (q : Place) → In q others → (name : Characters) × In q (in_bucket (of_attribute name))
  pub complete : (name : Characters) (q : Place) → In q (in_bucket (of_attribute name)) → In q others

-- each number is below those after it
abbrev pub Rise : List ℕ → Type 0
Rise [] = Unit {0}
Rise (i ∷ is) = AllByRecursion (λ j. i < j) is × Rise is

-- lists that rise are told by their members
first_same : (i j : ℕ) (is js : List ℕ) → AllByRecursion (λ k. i < k) is → AllByRecursion (λ k. j < k) js → In i (j ∷ js) → In j (i ∷ is) → i ≡ j
first_same i j is js low up (inl e) other = sym e
first_same i j is js low up (inr m) (inl e) = e
first_same i j is js low up (inr m) (inr n) =
    let a : j < i = of_each (λ k. j < k) js up i m in
    let b : i < j = of_each (λ k. i < k) is low j n in
    absurd (omega (arith, a, b))

rest_within : (i j : ℕ) (is js : List ℕ) → i ≡ j → AllByRecursion (λ k. i < k) is → ((k : ℕ) → In k (i ∷ is) → In k (j ∷ js)) → (k : ℕ) → In k is → In k js
rest_within i j is js e low within k m = by (within k (inr m))
  where
    by : In k (j ∷ js) → In k js
    by (inl same) = let a : i < k = of_each (λ n. i < n) is low k m in absurd (omega (arith, a, e, same))
    by (inr n) = n

pub rise_same : (is js : List ℕ) → Rise is → Rise js → ((k : ℕ) → In k is → In k js) → ((k : ℕ) → In k js → In k is) → is ≡ js
rise_same [] [] up vp to from = refl
rise_same [] (j ∷ js) up vp to from = absurd (from j (inl refl))
rise_same (i ∷ is) [] up vp to from = absurd (to i (inl refl))
rise_same (i ∷ is) (j ∷ js) up vp to from =
    let e : i ≡ j = first_same i j is js up.0 vp.0 (to i (inl refl)) (from j (inl refl)) in
    ap (λ n. n ∷ is) e
    ∙ ap (λ l. j ∷ l) (rise_same is js up.1 vp.1 (rest_within i j is js e up.0 to) (rest_within j i js is (sym e) vp.0 from))

module _ (doc : List Element) (x : ℕ) where
  -- the candidates rise

  each_from : (i : ℕ) (rules : List (List Selector)) → AllByRecursion (λ k. i ≤ k) (candidates_from doc x i rules)
  each_from i [] = tt
  each_from i (selectors ∷ rest) =
      by (bears_some doc x selectors)
      (each_weaker (λ k. i + 1 ≤ k) (λ k. i ≤ k) (λ k h. omega (arith, h)) (candidates_from doc x (i + 1) rest) (each_from (i + 1) rest))
    where
      by : (b : Bool) → AllByRecursion (λ k. i ≤ k) (candidates_from doc x (i + 1) rest)
          → AllByRecursion (λ k. i ≤ k) (if b then i ∷ candidates_from doc x (i + 1) rest else candidates_from doc x (i + 1) rest)
      by true h = (omega arith, h)
      by false h = h

  candidates_rise : (i : ℕ) (rules : List (List Selector)) → Rise (candidates_from doc x i rules)
  candidates_rise i [] = tt
  candidates_rise i (selectors ∷ rest) = by (bears_some doc x selectors) (candidates_rise (i + 1) rest)
    where
      by : (b : Bool) → Rise (candidates_from doc x (i + 1) rest)
          → Rise (if b then i ∷ candidates_from doc x (i + 1) rest else candidates_from doc x (i + 1) rest)
      by true h = (
        each_weaker (λ k. i + 1 ≤ k) (λ k. i < k) (λ k l. omega (arith, l)) (candidates_from doc x (i + 1) rest) (each_from (i + 1) rest),
        h,
      )
      by false h = h

  module _ (slot : Characters → ℕ) where
    -- some selector of the rule is in a bucket that is borne
    abbrev IsBorne : List Placed → ℕ → Type 0
    IsBorne ps i = (p : Placed) × (In p ps × ((p.place.rule ≡ i) × (bears_bucket doc p.bucket x ≡ true)))

    borne_of : (i j k : ℕ) (selectors : List Selector) → IsBorne (placed_in slot i j selectors) k → (k ≡ i) × (bears_some doc x selectors ≡ true)
    borne_of i j k [] (p, (m, rest)) = absurd m
    borne_of i j k (s ∷ ss) (p, (inl e, (at, borne))) = (
      sym at ∙ sym (ap (λ (q : Placed). q.place.rule) e),
      or_left (bears doc (key_of s) x) (bears_some doc x ss) (bears_by_bucket doc x s ∙ (ap (λ (q : Placed). bears_bucket doc q.bucket x) e ∙ borne)),
    )
    borne_of i j k (s ∷ ss) (p, (inr m, rest)) =
        let later = borne_of i (j + 1) k ss (p, (m, rest)) in
        (later.0, or_right (bears doc (key_of s) x) (bears_some doc x ss) later.1)

    borne_in : (i j : ℕ) (selectors : List Selector) → bears_some doc x selectors ≡ true → IsBorne (placed_in slot i j selectors) i
    borne_in i j [] h = absurd (false≢true h)
    borne_in i j (s ∷ ss) h = by (bears doc (key_of s) x) refl (borne_in i (j + 1) ss) h
      where
        by : (b : Bool) → bears doc (key_of s) x ≡ b → (bears_some doc x ss ≡ true → IsBorne (placed_in slot i (j + 1) ss) i)
            → (b || bears_some doc x ss) ≡ true → IsBorne (placed_in slot i j (s ∷ ss)) i
        by true e later k = (placed slot i j s, (inl refl, (refl, sym (bears_by_bucket doc x s) ∙ e)))
        by false e later k = let (p, (m, rest)) = later k in (p, (inr m, rest))

    here_or_later : (b : Bool) (i k : ℕ) (is : List ℕ) → In k is → In k (if b then i ∷ is else is)
    here_or_later true i k is m = inr m
    here_or_later false i k is m = m

    -- the candidates are the rules that have such a selector

    of_borne : (i k : ℕ) (rules : List (List Selector)) → IsBorne (placed_from slot i rules) k → In k (candidates_from doc x i rules)
    of_borne i k [] (p, (m, rest)) = absurd m
    of_borne i k (selectors ∷ rest) (p, (m, told)) = elim (in_either p (placed_in slot i 0 selectors) (placed_from slot (i + 1) rest) m) [
      | inl first ↦
          let own = borne_of i 0 k selectors (p, (first, told)) in
          subst (λ b. In k (if b then i ∷ candidates_from doc x (i + 1) rest else candidates_from doc x (i + 1) rest)) (sym own.1) (inl (sym own.0))
      | inr later ↦
          here_or_later (bears_some doc x selectors) i k (candidates_from doc x (i + 1) rest) (of_borne (i + 1) k rest (p, (later, told)))
    ]

    to_borne : (i k : ℕ) (rules : List (List Selector)) → In k (candidates_from doc x i rules) → IsBorne (placed_from slot i rules) k
    to_borne i k [] m = absurd m
    to_borne i k (selectors ∷ rest) m =
        by (bears_some doc x selectors) refl
        (λ n.
        let (p, (there, told)) = to_borne (i + 1) k rest n in
        (p, (in_right p (placed_in slot i 0 selectors) (placed_from slot (i + 1) rest) there, told)))
        m
      where
        first : i ≡ k → bears_some doc x selectors ≡ true → IsBorne (placed_from slot i (selectors ∷ rest)) k
        first e h =
            let (p, (there, told)) = borne_in i 0 selectors h in
            (p, (in_left p (placed_in slot i 0 selectors) (placed_from slot (i + 1) rest) there, (told.0 ∙ e, told.1)))

        by : (b : Bool) → bears_some doc x selectors ≡ b → (In k (candidates_from doc x (i + 1) rest) → IsBorne (placed_from slot i (selectors ∷ rest)) k)
            → In k (if b then i ∷ candidates_from doc x (i + 1) rest else candidates_from doc x (i + 1) rest) → IsBorne (placed_from slot i (selectors ∷ rest)) k
        by true h later (inl e) = first e h
        by true h later (inr n) = later n
        by false h later n = later n

    module _ (rules : List (List Selector)) (in_bucket : Bucket → List Place) (is : IsMapOf slot rules in_bucket) where
      abbrev all : List Placed
      all = placed_from slot 0 rules

      -- a place in a bucket that is borne
      place_borne : (bucket : Bucket) → bears_bucket doc bucket x ≡ true → (q : Place) → In q (in_bucket bucket) → IsBorne all q.rule
      place_borne bucket borne q m =
          let (p, (there, same)) = of_map (λ (p : Placed). p.place) q (filter (λ (p : Placed). same_bucket bucket p.bucket) all) (subst (In q) (is.each bucket) m) in
          let kept = of_filter (λ (p : Placed). same_bucket bucket p.bucket) p all there in
          (p, (kept.0, (ap (λ (r : Place). r.rule) same, subst (λ b. bears_bucket doc b x ≡ true) (bucket_told bucket p.bucket kept.1) borne)))

      in_its_bucket : (bucket : Bucket) (p : Placed) → same_bucket bucket p.bucket ≡ true → In p all → In p.place (in_bucket bucket)
      in_its_bucket bucket p same m =
          subst (In p.place) (sym (is.each bucket))
          (in_map (λ (r : Placed). r.place) p (filter (λ (r : Placed). same_bucket bucket r.bucket) all) (in_filter (λ (r : Placed). same_bucket bucket r.bucket) p all same m))

      looked_borne : (bucket : Bucket) → looks_at doc bucket x ≡ true → bears_bucket doc bucket x ≡ true
      looked_borne (of_attribute name) h = refl
      looked_borne (of_id name) h = h
      looked_borne (of_class class) h = h
      looked_borne (of_type tag) h = h
      looked_borne of_any h = h

      borne_cases : (bucket : Bucket) → bears_bucket doc bucket x ≡ true → ((name : Characters) × (bucket ≡ of_attribute name)) ⊎ (looks_at doc bucket x ≡ true)
      borne_cases (of_attribute name) h = inl (name, refl)
      borne_cases (of_id name) h = inr h
      borne_cases (of_class class) h = inr h
      borne_cases (of_type tag) h = inr h
      borne_cases of_any h = inr h

      module _ (pieces : List (List Place)) (looked : AreLookedAt doc x in_bucket pieces) (others : List Place) (by_attribute : AreOfAttributes in_bucket others) where
        abbrev rules_of : List Place → List ℕ
        rules_of = map (λ q. q.rule)

        abbrev told : List ℕ
        told = flat_map rules_of pieces ++ rules_of others

        sound : (k : ℕ) → In k told → IsBorne all k
        sound k m = elim (in_either k (flat_map rules_of pieces) (rules_of others) m) [
          | inl piece ↦
              let (l, (here, of)) = of_joined rules_of k pieces piece in
              let (q, (there, same)) = of_map (λ (q : Place). q.rule) k l of in
              let (bucket, (among, is_piece)) = of_map in_bucket l looked.buckets (subst (In l) looked.are here) in
              let borne = place_borne bucket (looked_borne bucket (of_each (λ b. looks_at doc b x ≡ true) looked.buckets looked.only bucket among)) q (subst (In q) (sym is_piece) there) in
              subst (IsBorne all) same borne
          | inr other ↦
              let (q, (there, same)) = of_map (λ (q : Place). q.rule) k others other in
              let (name, inside) = by_attribute.sound q there in
              subst (IsBorne all) same (place_borne (of_attribute name) refl q inside)
        ]

        complete : (k : ℕ) → IsBorne all k → In k told
        complete k (p, (m, (at, borne))) = elim (borne_cases p.bucket borne) [
          | inl (name, e) ↦
              let inside : In p.place (in_bucket (of_attribute name)) =
              in_its_bucket (of_attribute name) p (subst (λ b. same_bucket b p.bucket ≡ true) e (bucket_same p.bucket)) m in
              subst (λ n. In n told) at
              (in_right p.place.rule (flat_map rules_of pieces) (rules_of others) (in_map (λ (q : Place). q.rule) p.place others (by_attribute.complete name p.place inside)))
          | inr looks ↦
              let (bucket, (among, same)) = one_of (same_bucket p.bucket) looked.buckets (looked.tell p.bucket looks) in
              let alike : same_bucket bucket p.bucket ≡ true = subst (λ b. same_bucket b p.bucket ≡ true) (bucket_told p.bucket bucket same) (bucket_same p.bucket) in
              let piece : In (in_bucket bucket) pieces = subst (In (in_bucket bucket)) (sym looked.are) (in_map in_bucket bucket looked.buckets among) in
              subst (λ n. In n told) at
              (in_left p.place.rule (flat_map rules_of pieces) (rules_of others)
              (in_joined rules_of (in_bucket bucket) p.place.rule pieces piece (in_map (λ (q : Place). q.rule) p.place (in_bucket bucket) (in_its_bucket bucket p alike m))))
        ]

        -- numbers that rise, and are those of the rules of these places, are the candidates
        pub candidates_told : (found : List ℕ) → Rise found → ((k : ℕ) → In k found → In k told) → ((k : ℕ) → In k told → In k found)
            → found ≡ candidates doc x rules
        candidates_told found up to from =
            rise_same found (candidates doc x rules) up (candidates_rise 0 rules) (λ k m. of_borne 0 k rules (sound k (to k m))) (λ k m. from k (complete k (to_borne 0 k rules m)))
