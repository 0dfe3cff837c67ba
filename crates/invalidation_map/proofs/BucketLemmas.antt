-- For `KeyIndex::near`: keys in the order of their buckets; all of a key are where its bucket is.
use Rattle.std.proofs.Common.{◌≡◌, ℕ, ◌+◌, ◌/◌, ◌<◌, ◌≤◌, List, [], ◌∷◌, ◌++◌, length, map, take, get_or, sym, ap, ◌∙◌, subst, arith, leb, ltb, inl, inr}
use Rattle.std.specs.List.Sorted.{IsNonDecreasingBy, IsPartitionedBy}
use Rattle.std.proofs.lemmas.Bool.{cases_eq, le-leb, leb-true, lt-ltb, ltb-true}
use Rattle.std.proofs.lemmas.List.{get_or-map, get_or_append_left, get_or_push, length-map, map-append, take_more}
use Rattle.std.proofs.lemmas.Nat.{mod_below}
use Rattle.scene_model.proofs.Numbers.{differs}
use Rattle.invalidation_map.specs.KeyBuckets.{BeginsAt, IsNear, bucket_of, spread}

-- smaller buckets are to the left
pub is_parted : (keys : List ℕ) (bucket : ℕ) → IsNonDecreasingBy bucket_of keys → IsPartitionedBy (λ key. ltb (bucket_of key) bucket) keys
is_parted keys bucket sorted i j d l m t =
    let rises : bucket_of (get_or keys i d) ≤ bucket_of (get_or keys j d) = sorted i j d l m in
    let less : bucket_of (get_or keys j d) < bucket = ltb-true (bucket_of (get_or keys j d)) bucket t in
    lt-ltb (bucket_of (get_or keys i d)) bucket (omega (arith, rises, less))

-- others are in other buckets
pub near_in : (key : ℕ) (keys : List ℕ) (first past : ℕ) → BeginsAt keys (bucket_of key) first → BeginsAt keys (bucket_of key + 1) past → IsNear key keys first past
near_in key keys first past begins ends = record {
  within = ends.within;
  before = λ i d low l.
      let less : bucket_of (get_or keys i d) < bucket_of key = begins.before i d low in
      differs (get_or keys i d) key (λ same. omega (arith, less, ap bucket_of same));
  behind = λ i d high l.
      let more : bucket_of key + 1 ≤ bucket_of (get_or keys i d) = ends.rest i d high l in
      differs (get_or keys i d) key (λ same. omega (arith, more, ap bucket_of same));
}

-- the keys of what is sorted
pub keys_sorted : {X : Type 0} (g : ℕ → ℕ) (f : X → ℕ) (xs : List X) → IsNonDecreasingBy (λ x. g (f x)) xs → IsNonDecreasingBy g (map f xs)
keys_sorted g f [] sorted i j d l m = absurd (omega arith)
keys_sorted g f (x ∷ xs) sorted i j d l m =
    let all : length (map f (x ∷ xs)) ≡ length (x ∷ xs) = length-map (x ∷ xs) f in
    let one : get_or (map f (x ∷ xs)) i d ≡ f (get_or (x ∷ xs) i x) = get_or-map f (x ∷ xs) i x d (omega (arith, all, l, m)) in
    let other : get_or (map f (x ∷ xs)) j d ≡ f (get_or (x ∷ xs) j x) = get_or-map f (x ∷ xs) j x d (omega (arith, all, m)) in
    let rises : g (f (get_or (x ∷ xs) i x)) ≤ g (f (get_or (x ∷ xs) j x)) = sorted i j x l (omega (arith, all, m)) in
    subst (λ n. g n ≤ g (get_or (map f (x ∷ xs)) j d)) (sym one)
    (subst (λ n. g (f (get_or (x ∷ xs) i x)) ≤ g n) (sym other) rises)

-- a key behind another one is in no smaller bucket
bucket_rises : (a b : ℕ) → spread a ≤ spread b → bucket_of a ≤ bucket_of b
bucket_rises a b h =
    omega (arith, h, mod_below (a / 256) 72057594037927936 (omega arith), mod_below (b / 256) 72057594037927936 (omega arith))

pub buckets_sorted : (keys : List ℕ) → IsNonDecreasingBy spread keys → IsNonDecreasingBy bucket_of keys
buckets_sorted keys sorted i j d l m = bucket_rises (get_or keys i d) (get_or keys j d) (sorted i j d l m)

-- what is less or not more than a place is to the left
pub is_spread_below : (keys : List ℕ) (place : ℕ) → IsNonDecreasingBy spread keys → IsPartitionedBy (λ key. ltb (spread key) place) keys
is_spread_below keys place sorted i j d l m t =
    let rises : spread (get_or keys i d) ≤ spread (get_or keys j d) = sorted i j d l m in
    let less : spread (get_or keys j d) < place = ltb-true (spread (get_or keys j d)) place t in
    lt-ltb (spread (get_or keys i d)) place (omega (arith, rises, less))

pub is_spread_to : (keys : List ℕ) (place : ℕ) → IsNonDecreasingBy spread keys → IsPartitionedBy (λ key. leb (spread key) place) keys
is_spread_to keys place sorted i j d l m t =
    let rises : spread (get_or keys i d) ≤ spread (get_or keys j d) = sorted i j d l m in
    let less : spread (get_or keys j d) ≤ place = leb-true (spread (get_or keys j d)) place t in
    le-leb (spread (get_or keys i d)) place (omega (arith, rises, less))

-- others are at other places
pub near_between : (key : ℕ) (keys : List ℕ) (first past : ℕ) → past ≤ length keys
    → ((i d : ℕ) → i < length keys → i < first → spread (get_or keys i d) < spread key)
    → ((i d : ℕ) → past ≤ i → i < length keys → spread key < spread (get_or keys i d)) → IsNear key keys first past
near_between key keys first past within less more = record {
  within = within;
  before = λ i d low l. differs (get_or keys i d) key (λ same. omega (arith, less i d l low, ap spread same));
  behind = λ i d high l. differs (get_or keys i d) key (λ same. omega (arith, more i d high l, ap spread same));
}

pub few_buckets : (key : ℕ) → bucket_of key < 256
few_buckets key = mod_below key 256 (omega arith)

-- one bucket more
pub begun_more : (keys starts more : List ℕ) (bucket place : ℕ) → length starts ≡ bucket → more ≡ starts ++ place ∷ [] → BeginsAt keys bucket place
    → ((b d : ℕ) → b < bucket → BeginsAt keys b (get_or starts b d)) → (b d : ℕ) → b < bucket + 1 → BeginsAt keys b (get_or more b d)
begun_more keys starts more bucket place count pushed last each b d l = subst (λ list. BeginsAt keys b (get_or list b d)) (sym pushed) (elim (cases_eq b bucket) [
  | inl same ↦ subst (BeginsAt keys b) (sym (get_or_push starts place d b (count ∙ sym same))) (subst (λ n. BeginsAt keys n place) (sym same) last)
  | inr other ↦ let low : b < bucket = omega (arith, l, other) in
      subst (BeginsAt keys b) (sym (get_or_append_left starts (place ∷ []) d b (omega (arith, low, count)))) (each b d low)
])

-- the keys of one more
pub map_more : {X : Type 0} (f : X → ℕ) (xs : List X) (i : ℕ) (x : X) (n : ℕ) (old new : List ℕ) → i < length xs → x ≡ get_or xs i x → n ≡ f x → new ≡ old ++ n ∷ []
    → old ≡ map f (take i xs) → new ≡ map f (take (i + 1) xs)
map_more f xs i x n old new l is e pushed so_far =
    pushed
    ∙ (ap (λ k. old ++ k ∷ []) e
    ∙ (ap (λ list. list ++ f x ∷ []) so_far
    ∙ (sym (map-append f (take i xs) (x ∷ []))
    ∙ ap (map f) (ap (λ z. take i xs ++ z ∷ []) is ∙ sym (take_more xs i x l)))))
