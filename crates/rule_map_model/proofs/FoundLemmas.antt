-- For `found_in`: what is found in the buckets that an element looks at is exactly the selectors that hold there.
use Rattle.std.proofs.Common.{◌≡◌, ℕ, zero, suc, ◌+◌, List, [], ◌∷◌, map, filter, slice_get, Bool, true, Some, refl, sym, ap, ◌∙◌, subst, inl, inr}
use Rattle.std.proofs.lemmas.Bool.{false≢true}
use Rattle.std.proofs.lemmas.Option.{same_Some, none-some}
use Rattle.std.proofs.lemmas.Slice.Eq.{bytes_eq-Decides}
use Rattle.scene_model.specs.Element.{Element}
use Rattle.selector_model.specs.Selector.{Selector}
use Rattle.selector_model.specs.SpecificityOf.{specificity_of}
use Rattle.selector_model.specs.Holds.{holds}
use Rattle.rule_map_model.specs.Buckets.{Bucket, of_id, of_class, of_type, of_attribute, of_any, same_bucket, bucket_of, Pair, pair, pairs_from, pairs_of, group, TellAll}
use Rattle.rule_map_model.specs.Hits.{In, Hit, hit, hit_of, found_in, AreHits}
use Rattle.rule_map_model.proofs.Members.{in_left, in_right, in_either, in_filter, of_filter, one_of, in_map, of_map, in_joined, of_joined, plus_none, none_plus, plus_next}
use Rattle.rule_map_model.proofs.BucketLemmas.{holds_looks}

pub bucket_told : (a b : Bucket) → same_bucket a b ≡ true → a ≡ b
bucket_told (of_id n) (of_id m) h = ap of_id ((bytes_eq-Decides n m).0 h)
bucket_told (of_class n) (of_class m) h = ap of_class ((bytes_eq-Decides n m).0 h)
bucket_told (of_type n) (of_type m) h = ap of_type ((bytes_eq-Decides n m).0 h)
bucket_told (of_attribute n) (of_attribute m) h = ap of_attribute ((bytes_eq-Decides n m).0 h)
bucket_told of_any of_any h = refl
bucket_told a b h = absurd (false≢true h)

pub bucket_same : (a : Bucket) → same_bucket a a ≡ true
bucket_same (of_id n) = (bytes_eq-Decides n n).1 refl
bucket_same (of_class n) = (bytes_eq-Decides n n).1 refl
bucket_same (of_type n) = (bytes_eq-Decides n n).1 refl
bucket_same (of_attribute n) = (bytes_eq-Decides n n).1 refl
bucket_same of_any = refl

-- the pairs of the rules

in_pairs : (i : ℕ) (rules : List (List Selector)) (j : ℕ) (selectors : List Selector) (selector : Selector) → slice_get rules j ≡ Some selectors → In selector selectors
    → In (pair (i + j) selector) (pairs_from i rules)
in_pairs i [] j selectors selector e m = absurd (none-some selectors e)
in_pairs i (first ∷ rest) zero selectors selector e m =
    in_left (pair (i + 0) selector) (map (pair i) first) (pairs_from (i + 1) rest)
    (subst (λ n. In (pair n selector) (map (pair i) first)) (plus_none i) (in_map (pair i) selector first (subst (In selector) (sym (same_Some first selectors e)) m)))
in_pairs i (first ∷ rest) (suc j) selectors selector e m =
    in_right (pair (i + suc j) selector) (map (pair i) first) (pairs_from (i + 1) rest)
    (subst (λ n. In (pair n selector) (pairs_from (i + 1) rest)) (plus_next i j) (in_pairs (i + 1) rest j selectors selector e m))

-- it is one of the selectors of a rule
abbrev IsPairOf : ℕ → List (List Selector) → Pair → Type 0
IsPairOf i rules p =
    (j : ℕ) × ((p.rule ≡ i + j) × ((selectors : List Selector) × ((slice_get rules j ≡ Some selectors) × In p.selector selectors)))

of_pairs : (i : ℕ) (rules : List (List Selector)) (p : Pair) → In p (pairs_from i rules) → IsPairOf i rules p
of_pairs i [] p m = absurd m
of_pairs i (first ∷ rest) p m = elim (in_either p (map (pair i) first) (pairs_from (i + 1) rest) m) [
  | inl k ↦
      let (selector, (there, same)) = of_map (pair i) p first k in
      (0, (sym (ap (λ (q : Pair). q.rule) same) ∙ plus_none i, (first, (refl, subst (λ s. In s first) (ap (λ (q : Pair). q.selector) same) there))))
  | inr k ↦
      let (j, (at, (selectors, (e, there)))) = of_pairs (i + 1) rest p k in
      (suc j, (at ∙ plus_next i j, (selectors, (e, there))))
]

-- each pair is in the bucket of its selector, and in no other
pub in_group : (pairs : List Pair) (p : Pair) → In p pairs → In p (group (bucket_of p.selector) pairs)
in_group pairs p m =
    in_filter (λ q. same_bucket (bucket_of p.selector) (bucket_of q.selector)) p pairs (bucket_same (bucket_of p.selector)) m

pub group_only : (bucket : Bucket) (pairs : List Pair) (p : Pair) → In p (group bucket pairs) → (In p pairs) × (bucket ≡ bucket_of p.selector)
group_only bucket pairs p m =
    let kept = of_filter (λ q. same_bucket bucket (bucket_of q.selector)) p pairs m in
    (kept.0, bucket_told bucket (bucket_of p.selector) kept.1)

module _ (doc : List Element) (x : ℕ) (rules : List (List Selector)) (buckets : List Bucket) where
  abbrev passes : Selector → Bool
  passes selector = holds doc selector x

  abbrev in_bucket : Bucket → List Hit
  in_bucket bucket = map hit_of (filter (λ p. passes p.selector) (group bucket (pairs_of rules)))

  found_sound : (h : Hit) → In h (found_in passes (pairs_of rules) buckets)
      → (selectors : List Selector) × ((slice_get rules h.rule ≡ Some selectors)
      × ((selector : Selector) × (In selector selectors × ((passes selector ≡ true) × (h.specificity ≡ specificity_of selector)))))
  found_sound h m =
      let (bucket, (there, inside)) = of_joined in_bucket h buckets m in
      let (p, (found, same)) = of_map hit_of h (filter (λ q. passes q.selector) (group bucket (pairs_of rules))) inside in
      let kept = of_filter (λ (q : Pair). passes q.selector) p (group bucket (pairs_of rules)) found in
      let (j, (at, (selectors, (e, listed)))) = of_pairs 0 rules p (group_only bucket (pairs_of rules) p kept.0).0 in
      (selectors, (ap (slice_get rules) (sym (ap (λ (g : Hit). g.rule) same) ∙ (at ∙ none_plus j)) ∙ e, (p.selector, (listed, (kept.1, sym (ap (λ (g : Hit). g.specificity) same))))))

  pub found_hits : TellAll doc x buckets → AreHits passes rules (found_in passes (pairs_of rules) buckets)
  found_hits tell = record {
    sound = found_sound;
    complete = λ i selectors selector e m t.
        let p : Pair = pair i selector in
        let there : In p (pairs_of rules) = subst (λ n. In (pair n selector) (pairs_of rules)) (none_plus i) (in_pairs 0 rules i selectors selector e m) in
        let (bucket, (looked, same)) = one_of (same_bucket (bucket_of selector)) buckets (tell (bucket_of selector) (holds_looks doc x selector t)) in
        let inside : In p (group bucket (pairs_of rules)) = subst (λ q. In p (group q (pairs_of rules))) (bucket_told (bucket_of selector) bucket same) (in_group (pairs_of rules) p there) in
        in_joined in_bucket bucket (hit i (specificity_of selector)) buckets looked
        (in_map hit_of p (filter (λ q. passes q.selector) (group bucket (pairs_of rules))) (in_filter (λ (q : Pair). passes q.selector) p (group bucket (pairs_of rules)) t inside));
  }
